use Rattle.group_symbol.proofs.WalkSteps.{Stands}
use Rattle.group_symbol.proofs.read.read_signs.Given as goal

abbrev pub invariant-loop-sign : goal.invariant-loop-sign
invariant-loop-sign l = Stands l.signs l.word l.sign-index l.at l.primes l.bit l.previous

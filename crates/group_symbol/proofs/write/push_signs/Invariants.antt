use Rattle.group_symbol.proofs.Written.{IsWritten}
use Rattle.group_symbol.proofs.write.push_signs.Given as goal

abbrev pub invariant-loop-sign : goal.invariant-loop-sign
invariant-loop-sign l = IsWritten l.initial.text l.signs l.primes l.text l.sign-index l.previous l.left

use Rattle.group_symbol.proofs.Alternatives.{Tried}
use Rattle.group_symbol.proofs.read.read_group.Given as goal

abbrev pub invariant-loop-number : goal.invariant-loop-number
invariant-loop-number l = Tried l.word l.number l.furthest

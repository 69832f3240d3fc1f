use Rattle.group_names.proofs.PrimePatterns.{IsTurning}
use Rattle.group_names.proofs.turned_bits.Given as goal

abbrev pub invariant-loop-digit : goal.invariant-loop-digit
invariant-loop-digit l = IsTurning l.count l.number l._digit l.turned l.rest

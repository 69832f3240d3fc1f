use Rattle.coset_states.specs.Numbering.{IsCovering}
use Rattle.coset_states.proofs.number_all.Given as goal

abbrev pub invariant-loop-place : goal.invariant-loop-place
invariant-loop-place l = IsCovering l.whole l.sub l.place l.representatives.items l.numbers

use Rattle.state_marks.specs.Sums.{IsZeros}
use Rattle.state_marks.proofs.rows.zeros.Given as goal

abbrev pub invariant-loop-place : goal.invariant-loop-place
invariant-loop-place l = IsZeros l._place l.sums.items

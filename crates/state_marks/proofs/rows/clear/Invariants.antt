use Rattle.state_marks.proofs.RowLaws.{IsClearing}
use Rattle.state_marks.proofs.rows.clear.Given as goal

abbrev pub invariant-loop-place : goal.invariant-loop-place
invariant-loop-place l = IsClearing l.fn.sums l.row l.place l.sums

use Rattle.std.proofs.Common.{◌≤◌, ◌-◌, length}
use Rattle.sparse_rows.proofs.RowSteps.{IsSplit}
use Rattle.sparse_rows.proofs.steps.find.Given as goal

abbrev pub invariant-loop-low : goal.invariant-loop-low
invariant-loop-low l = IsSplit l.row l.at l.low l.high × (l.high ≤ length l.row)

abbrev pub decreases-loop-low : goal.decreases-loop-low
decreases-loop-low l = l.high - l.low

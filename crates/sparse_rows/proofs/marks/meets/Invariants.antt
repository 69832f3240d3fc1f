use Rattle.std.proofs.Common.{◌≤◌, length}
use Rattle.sparse_rows.proofs.Marking.{IsPassing}
use Rattle.sparse_rows.proofs.marks.meets.Given as goal

abbrev pub invariant-loop-entry : goal.invariant-loop-entry
invariant-loop-entry l = IsPassing l.marks l.row l.entry-index × (l.entry-index ≤ length l.row)

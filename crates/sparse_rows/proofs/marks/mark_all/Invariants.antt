use Rattle.std.proofs.Common.{◌≤◌, length}
use Rattle.sparse_rows.proofs.Marking.{IsMarking}
use Rattle.sparse_rows.proofs.marks.mark_all.Given as goal

abbrev pub invariant-loop-entry : goal.invariant-loop-entry
invariant-loop-entry l = IsMarking l.initial.marks l.row l.entry-index l.marks × (l.entry-index ≤ length l.row)

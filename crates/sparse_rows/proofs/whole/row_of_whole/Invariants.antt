use Rattle.std.proofs.Common.{◌≤◌, length, drop}
use Rattle.sparse_rows.specs.WholeRows.{whole_line}
use Rattle.sparse_rows.proofs.Wholes.{IsTaking}
use Rattle.sparse_rows.proofs.whole.row_of_whole.Given as goal

abbrev pub invariant-loop-entry : goal.invariant-loop-entry
invariant-loop-entry l =
    IsTaking (whole_line l.entries) (drop l.entry-index l.entries) l.taken.items × (l.entry-index ≤ length l.entries)

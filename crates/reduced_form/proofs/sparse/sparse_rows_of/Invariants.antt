use Rattle.std.proofs.Common.{◌≤◌, length, take}
use Rattle.reduced_form.specs.Eliminated.{AreSparse}
use Rattle.reduced_form.proofs.sparse.sparse_rows_of.Given as goal

abbrev pub invariant-loop-row : goal.invariant-loop-row
invariant-loop-row g l = record {
  made : AreSparse g.R.Rank.LEN l.places (take l.row-index l.rows) l.sparse.items;
  within : l.row-index ≤ length l.rows;
}

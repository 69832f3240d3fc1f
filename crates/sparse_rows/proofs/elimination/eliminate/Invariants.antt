use Rattle.std.proofs.Common.{◌≤◌, length, drop}
use Rattle.sparse_rows.specs.KeptRows.{kepts, lines, AreRows}
use Rattle.sparse_rows.specs.Marks.{AreSeen}
use Rattle.sparse_rows.proofs.Lines.{IsState}
use Rattle.sparse_rows.proofs.elimination.eliminate.Given as goal

abbrev pub invariant-loop-row : goal.invariant-loop-row
invariant-loop-row l = IsState (lines l.rows) (kepts l.kept.items) (lines (drop l.row-index l.rows)) × AreRows l.kept.items × (l.row-index ≤ length l.rows) × AreSeen l.seen (kepts l.kept.items)

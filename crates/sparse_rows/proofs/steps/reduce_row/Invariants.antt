use Rattle.std.proofs.Common.{◌≤◌, length, drop}
use Rattle.sparse_rows.specs.Prelude.{coeff, IsRow, kepts}
use Rattle.sparse_rows.proofs.Marking.{AreMet}
use Rattle.sparse_rows.proofs.RowSteps.{IsReducing}
use Rattle.sparse_rows.proofs.steps.reduce_row.Given as goal

abbrev pub invariant-loop-k : goal.invariant-loop-k
invariant-loop-k l = IsReducing (kepts l.kept) (coeff l.fn.row) (kepts (drop l.k-index l.kept)) (coeff l.left.items) × IsRow l.left.items × (l.k-index ≤ length l.kept) × AreMet l.marks l.left.items

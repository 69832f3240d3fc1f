use Rattle.std.proofs.Common.{◌≤◌, length, take}
use Rattle.sparse_rows.specs.Prelude.{kepts, AreSolved}
use Rattle.sparse_rows.proofs.solution.pivot_sums.Given as goal

abbrev pub invariant-loop-row : goal.invariant-loop-row
invariant-loop-row l = AreSolved (kepts l.kept) (kepts (take l.row-index l.kept)) l.sums.items × (l.row-index ≤ length l.kept)

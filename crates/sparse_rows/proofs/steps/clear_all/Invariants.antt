use Rattle.std.proofs.Common.{◌≡◌, length, take, drop}
use Rattle.sparse_rows.specs.KeptRows.{kept_of, kepts, AreRows}
use Rattle.sparse_rows.proofs.RowSteps.{IsClearing}
use Rattle.sparse_rows.proofs.steps.clear_all.Given as goal

abbrev pub invariant-loop-place : goal.invariant-loop-place
invariant-loop-place l =
    IsClearing (kept_of l.new) (kepts l.fn.kept.items) (kepts (take l.place l.kept.items)) (kepts (drop l.place l.kept.items))
    × AreRows (take l.place l.kept.items) × AreRows (drop l.place l.kept.items) × (length l.kept.items ≡ length l.fn.kept.items)

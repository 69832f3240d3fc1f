use Rattle.std.proofs.Common.{◌+◌, ◌-◌, ◌≤◌, length, drop}
use Rattle.tensor_defs.specs.Number.{value_of}
use Rattle.sparse_rows.specs.Rows.{coeff}
use Rattle.sparse_rows.proofs.Merging.{IsMerging}
use Rattle.sparse_rows.proofs.merge.subtract.Given as goal

abbrev pub invariant-loop-i : goal.invariant-loop-i
invariant-loop-i l = IsMerging (coeff l.row) (value_of l.factor) (coeff l.other) (drop l.i l.row) (drop l.j l.other) l.out.items × (l.i ≤ length l.row) × (l.j ≤ length l.other)

abbrev pub decreases-loop-i : goal.decreases-loop-i
decreases-loop-i l = (length l.row - l.i) + (length l.other - l.j)

use Rattle.std.proofs.Common.{◌≤◌, length, drop}
use Rattle.exact_frac.specs.Held.{inverse_of}
use Rattle.sparse_rows.specs.Rows.{coeff}
use Rattle.sparse_rows.proofs.RowSteps.{IsScaling}
use Rattle.sparse_rows.proofs.steps.scale.Given as goal

abbrev pub invariant-loop-entry : goal.invariant-loop-entry
invariant-loop-entry l = IsScaling (coeff l.row) (inverse_of l.last.value) (drop l.entry-index l.row) l.entries.items × (l.entry-index ≤ length l.row)

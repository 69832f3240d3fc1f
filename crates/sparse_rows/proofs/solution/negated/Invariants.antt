use Rattle.std.proofs.Common.{◌≤◌, length, drop}
use Rattle.sparse_rows.proofs.PivotSums.{IsTurning}
use Rattle.sparse_rows.proofs.solution.negated.Given as goal

abbrev pub invariant-loop-entry : goal.invariant-loop-entry
invariant-loop-entry l = IsTurning l.entries (drop l.entry-index l.entries) l.out.items × (l.entry-index ≤ length l.entries)

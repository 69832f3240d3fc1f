use Rattle.tensor_rank.specs.Flags.{marks_of}
use Rattle.constraint_rows.specs.Marking.{AreDiagonals}
use Rattle.constraint_rows.proofs.axis.diagonal_ops.Given as goal

abbrev pub invariant-loop-place : goal.invariant-loop-place
invariant-loop-place l = record {
  ops : AreDiagonals (marks_of l.flags) l.group l.place l.ops.items;
}

use Rattle.std.proofs.Common.{drop}
use Rattle.tensor_defs.specs.Tensor.{index_of}
use Rattle.reduced_form.specs.Forms.{form_table}
use Rattle.tensor_rank.specs.Flags.{marks_of}
use Rattle.state_marks.proofs.Skips.{IsAddingParts}
use Rattle.state_marks.proofs.adding.add_parts.Given as goal

abbrev pub invariant-loop-place : goal.invariant-loop-place
invariant-loop-place g l =
    IsAddingParts (marks_of l.fn.flags) l.op g.R.Rank.R (form_table g.R.Rank.R l.form) (index_of g.R.Rank.R l.fn.to)
    (drop l.place l.parts) l.sums

use Rattle.reduced_form.specs.Forms.{form_table}
use Rattle.tensor_rank.specs.Flags.{marks_of}
use Rattle.state_marks.specs.Told.{AreTold}
use Rattle.state_marks.proofs.marks.later_states.Given as goal

abbrev pub invariant-loop-place : goal.invariant-loop-place
invariant-loop-place g l =
    AreTold (marks_of l.flags) g.R.Rank.R (form_table g.R.Rank.R l.form) l.states.reps l.place l.later.items

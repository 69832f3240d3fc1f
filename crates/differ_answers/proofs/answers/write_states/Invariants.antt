use Rattle.std.proofs.Common.{◌≤◌, vec_capacity}
use Rattle.reduced_form.specs.Forms.{form_table}
use Rattle.tensor_rank.specs.Flags.{marks_of}
use Rattle.magnetic_groups.specs.Sets.{In}
use Rattle.tensor_defs.specs.Lists.{Each}
use Rattle.differ_answers.specs.Standing.{IsKnown}
use Rattle.differ_answers.proofs.StateTexts.{IsWriting}
use Rattle.differ_answers.proofs.answers.write_states.Given as goal

abbrev pub invariant-loop-place : goal.invariant-loop-place
invariant-loop-place g l = record {
  writing : IsWriting (marks_of l.flags) g.R.Rank.R (In l.states.sub) (form_table g.R.Rank.R l.form) l.states.reps l.place l.initial.out.items l.out.items;
  known : Each (IsKnown (marks_of l.flags) g.R.Rank.R (form_table g.R.Rank.R l.form) l.out.items) l.known.items;
  capacity : vec_capacity l.initial.out ≤ vec_capacity l.out;
}

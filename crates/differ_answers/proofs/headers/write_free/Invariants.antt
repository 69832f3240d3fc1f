use Rattle.std.proofs.Common.{◌≡◌, ◌++◌, ◌≤◌, vec_capacity}
use Rattle.std.specs.Prelude.{take}
use Rattle.text_defs.specs.Prelude.{free_names, spaced}
use Rattle.reduced_form.specs.Forms.{form_table}
use Rattle.differ_answers.proofs.headers.write_free.Given as goal

abbrev pub invariant-loop-place : goal.invariant-loop-place
invariant-loop-place g l = record {
  items : l.out.items ≡ l.initial.out.items ++ spaced (take l.place (free_names (form_table g.R.Rank.R l.form)));
  capacity : vec_capacity l.initial.out ≤ vec_capacity l.out;
}

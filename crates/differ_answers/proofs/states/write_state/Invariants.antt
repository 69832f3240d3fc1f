use Rattle.std.proofs.Common.{◌≡◌, ◌++◌, ◌≤◌, vec_capacity}
use Rattle.form_lines.specs.Texts.{lines_upto}
use Rattle.differ_answers.specs.Texts.{marked_text}
use Rattle.differ_answers.proofs.states.write_state.Given as goal

abbrev pub invariant-loop-component : goal.invariant-loop-component
invariant-loop-component g l = record {
  items : l.out.items ≡ l.initial.out.items ++ lines_upto (marked_text g.R.Rank.R l.form l.rows) l.component;
  capacity : vec_capacity l.initial.out ≤ vec_capacity l.out;
}

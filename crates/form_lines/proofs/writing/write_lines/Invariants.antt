use Rattle.std.proofs.Common.{◌≡◌, ◌++◌, ◌≤◌, vec_capacity}
use Rattle.tensor_defs.specs.Tensor.{index_of}
use Rattle.text_defs.specs.AnswerTexts.{component_line}
use Rattle.reduced_form.specs.Prelude.{form_table}
use Rattle.form_lines.specs.Texts.{lines_upto}
use Rattle.form_lines.proofs.writing.write_lines.Given as goal

abbrev pub invariant-loop-number : goal.invariant-loop-number
invariant-loop-number g l = record {
  items : l.out.items ≡ l.initial.out.items ++ lines_upto (λ c. component_line (form_table g.R.Rank.R l.form) (index_of g.R.Rank.R c)) l.number;
  capacity : vec_capacity l.initial.out ≤ vec_capacity l.out;
}

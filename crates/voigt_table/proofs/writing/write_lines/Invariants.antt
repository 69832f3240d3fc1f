use Rattle.std.proofs.Common.{◌≡◌, ◌++◌, ◌≤◌, vec_capacity}
use Rattle.text_defs.specs.AnswerTexts.{entry_line}
use Rattle.form_lines.specs.Texts.{lines_upto}
use Rattle.voigt_table.specs.Blocks.{entry_at}
use Rattle.voigt_table.specs.Tables.{voigt_of}
use Rattle.voigt_table.proofs.writing.write_lines.Given as goal

abbrev pub invariant-loop-number : goal.invariant-loop-number
invariant-loop-number l = record {
  items : l.out.items ≡ l.initial.out.items ++ lines_upto (λ n. entry_line l.table.weights (voigt_of l.table) (entry_at l.table.sizes n)) l.number;
  capacity : vec_capacity l.initial.out ≤ vec_capacity l.out;
}

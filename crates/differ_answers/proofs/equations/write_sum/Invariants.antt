use Rattle.std.proofs.Common.{◌≡◌, ◌++◌, ◌≤◌, vec_capacity}
use Rattle.std.specs.Prelude.{take}
use Rattle.form_lines.specs.Texts.{sum_from}
use Rattle.differ_answers.specs.Texts.{named_terms}
use Rattle.differ_answers.proofs.equations.write_sum.Given as goal

abbrev pub invariant-loop-place : goal.invariant-loop-place
invariant-loop-place g l = record {
  items : l.out.items ≡ l.initial.out.items ++ sum_from 0 (take l.place (named_terms g.R.Rank.R l.form l.row));
  capacity : vec_capacity l.initial.out ≤ vec_capacity l.out;
}

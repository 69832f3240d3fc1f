use Rattle.std.proofs.Common.{◌≡◌, ◌++◌, ◌≤◌, vec_capacity}
use Rattle.std.specs.Prelude.{take}
use Rattle.form_lines.specs.Texts.{named_terms, sum_from}
use Rattle.form_lines.proofs.writing.write_sum.Given as goal

abbrev pub invariant-loop-place : goal.invariant-loop-place
invariant-loop-place g l = record {
  items : l.out.items ≡ l.initial.out.items ++ sum_from 0 (named_terms g.R.Rank.R l.form (take l.place l.row));
  capacity : vec_capacity l.initial.out ≤ vec_capacity l.out;
}

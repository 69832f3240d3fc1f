use Rattle.std.proofs.Common.{◌≡◌, ◌++◌, ◌+◌, ◌≤◌, drop, vec_capacity}
use Rattle.std.specs.Prelude.{map}
use Rattle.text_defs.specs.AnswerTexts.{class_lines}
use Rattle.twin_pairs.specs.Classes.{class_of}
use Rattle.answer_writers.specs.Rows.{IsLonger}
use Rattle.state_answers.proofs.pairs.write_classes.Given as goal

abbrev pub invariant-loop-place : goal.invariant-loop-place
invariant-loop-place l = record {
  rest : l.out.items ++ class_lines (l.place + 1) (map class_of (drop l.place l.classes)) ≡ l.fn.out.items ++ class_lines 1 (map class_of l.classes);
  longer : IsLonger l.fn.out.items l.out.items;
  capacity : vec_capacity l.fn.out ≤ vec_capacity l.out;
}

use Rattle.std.proofs.Common.{◌≡◌, ◌++◌, ◌+◌, ◌≤◌, drop, vec_capacity}
use Rattle.answer_writers.specs.Rows.{IsLonger}
use Rattle.text_defs.specs.AnswerTexts.{numbered}
use Rattle.answer_writers.proofs.operations.write_lines.Given as goal

abbrev pub invariant-loop-place : goal.invariant-loop-place
invariant-loop-place g l = record {
  rest : l.out.items ++ numbered l.word (l.place + 1) (drop l.place (g.L.OperationList.listed l.list)) ≡ l.fn.out.items ++ numbered l.word 1 (g.L.OperationList.listed l.list);
  longer : IsLonger l.fn.out.items l.out.items;
  capacity : vec_capacity l.fn.out ≤ vec_capacity l.out;
}

use Rattle.list_laws.proofs.Kit.{◌≡◌, ◌++◌, ◌≤◌, take, vec_capacity, decimal}
use Rattle.std.specs.Prelude.{map}
use Rattle.text_defs.specs.NumberTexts.{spaced}
use Rattle.answer_writers.specs.Rows.{IsLonger}
use Rattle.state_answers.proofs.pairs.write_members.Given as goal

abbrev pub invariant-loop-place : goal.invariant-loop-place
invariant-loop-place l = record {
  items : l.out.items ≡ l.fn.out.items ++ spaced (map decimal (take l.place l.members));
  longer : IsLonger l.fn.out.items l.out.items;
  capacity : vec_capacity l.fn.out ≤ vec_capacity l.out;
}

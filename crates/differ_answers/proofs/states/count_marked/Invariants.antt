use Rattle.std.proofs.Common.{◌≡◌, ◌≤◌, length}
use Rattle.differ_answers.specs.Texts.{marked_below}
use Rattle.differ_answers.proofs.states.count_marked.Given as goal

abbrev pub invariant-loop-number : goal.invariant-loop-number
invariant-loop-number g l = record {
  is : l.count ≡ length (marked_below g.R.Rank.R l.rows l.number);
  few : l.count ≤ l.number;
}

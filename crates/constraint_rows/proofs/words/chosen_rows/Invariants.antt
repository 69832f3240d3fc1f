use Rattle.tensor_rank.specs.Orders.{before_at}
use Rattle.constraint_rows.specs.Prelude.{is_chosen, AreRowsBelow}
use Rattle.constraint_rows.proofs.words.chosen_rows.Given as goal

abbrev pub invariant-loop-number : goal.invariant-loop-number
invariant-loop-number g l = record {
  rows : AreRowsBelow g.R.Rank.R (before_at g.R.Rank.R l.order) l.classes (is_chosen l.rotations) l.number l.rows.items;
}

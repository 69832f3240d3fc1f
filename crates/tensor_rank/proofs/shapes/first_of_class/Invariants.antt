use Rattle.tensor_rank.specs.Prelude.{before_at, IsFirstBelow}
use Rattle.tensor_rank.proofs.shapes.first_of_class.Given as goal

abbrev pub invariant-loop-number : goal.invariant-loop-number
invariant-loop-number g l = record {
  first : IsFirstBelow g.R.Rank.LEN l.classes (before_at g.R.Rank.R l.order) l.fn.root l.best l.number;
}

use Rattle.sign_moves.specs.Best.{IsBestUpTo}
use Rattle.sign_moves.proofs.firsts.best_of_classes.Given as goal

abbrev pub invariant-loop-c : goal.invariant-loop-c
invariant-loop-c g l = record {
  best : IsBestUpTo (g.P.Precedence.size l.order) (g.P.Precedence.order l.order) l.classes l.best.items l.c;
}

use Rattle.sign_moves.specs.Walks.{IsWalked}
use Rattle.sign_moves.proofs.engine.divide.Given as goal

abbrev pub invariant-loop-number : goal.invariant-loop-number
invariant-loop-number g l = record {
  walked : IsWalked (g.M.Moves.size l.moves) (g.M.Moves.moves l.moves) l.table l.number;
}

use Rattle.std.proofs.Common.{ℕ, ◌+◌, ◌<◌, ◌≤◌, length}
use Rattle.sign_moves.specs.Prelude.{total_of, item_at, IsClosed, IsWalk, Lengthens}
use Rattle.sign_moves.proofs.engine.visit.Given as goal

abbrev pub invariant-loop-place : goal.invariant-loop-place
invariant-loop-place g l =
    let m = g.M.Moves.moves l.moves in
    record {
      walk : IsWalk (g.M.Moves.size l.moves) m l.table l.root l.queue.items l.head;
      closed : (k : ℕ) → k < l.place → IsClosed m l.table k (item_at l.queue.items l.head);
      lengthens : Lengthens l.fn.queue.items l.queue.items;
      falls : total_of l.table + length l.queue.items ≤ total_of l.fn.table + length l.fn.queue.items;
    }

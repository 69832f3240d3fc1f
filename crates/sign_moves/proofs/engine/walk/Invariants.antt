use Rattle.std.proofs.Common.{◌+◌, ◌-◌, ◌≤◌, length}
use Rattle.sign_moves.specs.Prelude.{total_of, IsWalk}
use Rattle.sign_moves.proofs.engine.walk.Given as goal

abbrev pub invariant-loop-head : goal.invariant-loop-head
invariant-loop-head g l = record {
  walk : IsWalk (g.M.Moves.size l.moves) (g.M.Moves.moves l.moves) l.table l.root l.queue.items l.head;
  inside : l.head ≤ length l.queue.items;
}

abbrev pub decreases-loop-head : goal.decreases-loop-head
decreases-loop-head g l = total_of l.table + length l.queue.items - l.head

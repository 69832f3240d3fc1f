use Rattle.std.proofs.Common.{◌+◌, ◌≤◌, drop}
use Rattle.tensor_rank.specs.Orders.{AreBlocks}
use Rattle.tensor_rank.proofs.orders.Order.of_blocks.Given as goal

abbrev pub invariant-loop-size : goal.invariant-loop-size
invariant-loop-size g l = record {
  room : l.left + l.size-index ≤ g.R.Rank.R;
  there : AreBlocks g.R.Rank.R l.blocks → AreBlocks l.left (drop l.size-index l.blocks);
  back : AreBlocks l.left (drop l.size-index l.blocks) → AreBlocks g.R.Rank.R l.blocks;
}

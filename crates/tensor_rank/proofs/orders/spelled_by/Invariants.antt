use Rattle.std.proofs.Common.{◌≡◌, ◌-◌, ◌^◌, ◌<◌, ◌≤◌, drop}
use Rattle.tensor_defs.specs.Prelude.{block_numbers, index_of}
use Rattle.tensor_rank.specs.Orders.{AreBlocks, spell}
use Rattle.tensor_rank.proofs.orders.spelled_by.Given as goal

abbrev pub invariant-loop-size : goal.invariant-loop-size
invariant-loop-size g l =
    let is = index_of g.R.Rank.R l.c in
    record {
      inside : l.start ≤ g.R.Rank.R;
      fit : AreBlocks (g.R.Rank.R - l.start) (drop l.size-index l.sizes);
      small : l.spelled < 7 ^ l.start;
      same : spell l.spelled (block_numbers (drop l.size-index l.sizes) (drop l.start is)) ≡ spell 0 (block_numbers l.sizes is);
    }

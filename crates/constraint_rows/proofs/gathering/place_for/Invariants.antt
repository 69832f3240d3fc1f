use Rattle.std.proofs.Common.{◌≡◌, ◌<◌, ◌≤◌, false, length}
use Rattle.tensor_rank.specs.Orders.{before_at}
use Rattle.constraint_rows.specs.Gathering.{part_at_place}
use Rattle.constraint_rows.proofs.gathering.place_for.Given as goal

abbrev pub invariant-loop-place : goal.invariant-loop-place
invariant-loop-place g l = record {
  within : l.place ≤ length l.parts;
  stop : l.place < length l.parts → before_at g.R.Rank.R l.order (part_at_place l.parts l.place).component l.d ≡ false;
}

abbrev pub decreases-loop-place : goal.decreases-loop-place
decreases-loop-place g l = l.place

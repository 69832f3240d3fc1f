use Rattle.std.proofs.Common.{◌≡◌, ◌+◌, ◌-◌, ℕ, ◌<◌, ◌≤◌, length, false, true}
use Rattle.tensor_rank.specs.Orders.{before_at}
use Rattle.reduced_form.specs.Forms.{free_at}
use Rattle.reduced_form.proofs.free.place_for.Given as goal

abbrev pub invariant-loop-place : goal.invariant-loop-place
invariant-loop-place g l = record {
  within : l.place ≤ l.near;
  after : l.place < l.near → before_at g.R.Rank.R l.order l.c (free_at l.free l.place) ≡ true;
}

abbrev pub decreases-loop-place : goal.decreases-loop-place
decreases-loop-place g l = l.place

abbrev pub invariant-loop-place-2 : goal.invariant-loop-place-2
invariant-loop-place-2 g l = record {
  within : l.place ≤ length l.free;
  before : (k : ℕ) → k + 1 ≡ l.place → before_at g.R.Rank.R l.order l.c (free_at l.free k) ≡ false;
}

abbrev pub decreases-loop-place-2 : goal.decreases-loop-place-2
decreases-loop-place-2 g l = length l.free - l.place

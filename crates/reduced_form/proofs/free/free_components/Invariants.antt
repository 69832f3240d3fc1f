use Rattle.std.proofs.Common.{◌≤◌, length}
use Rattle.tensor_rank.specs.Orders.{before_at}
use Rattle.reduced_form.specs.Forms.{IsFreeUpTo}
use Rattle.reduced_form.proofs.free.free_components.Given as goal

abbrev pub invariant-loop-c : goal.invariant-loop-c
invariant-loop-c g l = record {
  free : IsFreeUpTo g.R.Rank.LEN (before_at g.R.Rank.R l.order) l.classes l.free.items l.c;
  near : l.near ≤ length l.free.items;
}

use Rattle.std.proofs.Common.{◌≡◌, [], take}
use Rattle.tensor_rank.specs.Orders.{before_at}
use Rattle.constraint_rows.specs.Gathering.{gathered}
use Rattle.constraint_rows.proofs.words.gather.Given as goal

abbrev pub invariant-loop-place : goal.invariant-loop-place
invariant-loop-place g l = record {
  even : l.even.items ≡ gathered (before_at g.R.Rank.R l.order) l.classes 0 (take l.place l.terms) [];
  odd : l.odd.items ≡ gathered (before_at g.R.Rank.R l.order) l.classes 1 (take l.place l.terms) [];
}

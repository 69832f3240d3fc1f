-- The moves of two lists together.
--   joined          the moves of the first list, and then those of the second
use Rattle.std.specs.Prelude.{◌+◌, ◌-◌, nat_lt}
use Rattle.std.proofs.Common.{cond}
use Rattle.sign_moves.specs.Moves.{Moves}

abbrev pub joined : Moves → Moves → Moves
joined a b = record {
  count = a.count + b.count;
  carried = λ k c. cond (nat_lt k a.count) (a.carried k c) (b.carried (k - a.count) c);
  sign = λ k c. cond (nat_lt k a.count) (a.sign k c) (b.sign (k - a.count) c);
}

use Rattle.std.proofs.Common.{◌≡◌}
use Rattle.tensor_rank.specs.Digits.{digit_of, number_of}
use Rattle.constraint_rows.specs.PlainOps.{image, signs_of}
use Rattle.constraint_rows.proofs.ops.PlainOp.carry.Given as goal

abbrev pub invariant-loop-place : goal.invariant-loop-place
invariant-loop-place g l = record {
  number : l.number ≡ number_of l.place (λ p. image l.self (digit_of g.R.Rank.R l.c p));
  sign : l.sign ≡ signs_of l.self (digit_of g.R.Rank.R l.c) l.place;
}

use Rattle.std.proofs.Common.{◌≡◌, ℕ, ◌<◌}
use Rattle.tensor_defs.specs.declared.Sign.TheVariants.{Minus}
use Rattle.constraint_rows.specs.PlainOps.{op_at, op_sign}
use Rattle.constraint_rows.proofs.axis.is_turned.Given as goal

abbrev pub invariant-loop-place : goal.invariant-loop-place
invariant-loop-place g l = record {
  none : (k : ℕ) → k < l.place → op_sign g.R.Rank.R (op_at l.ops k) l.c ≡ Minus → ⊥;
}

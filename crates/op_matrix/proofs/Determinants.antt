-- The determinant of an operation is 1 or -1.
use Rattle.std.proofs.Common.{◌≡◌, ℕ, ◌/◌, ◌%◌, ◌<◌, Bool, true, false, nat_eq, ◌⊎◌, inl, inr, refl, sym, arith}
use lib.IntN.{pos, negsuc}
use Rattle.tensor_defs.specs.Prelude.{whole, Operation, value, determinant}
use Rattle.op_matrix.specs.Table.{nth_operation}
use Rattle.op_matrix.proofs.Facts.{det_at, negative_code}

by_code : (g : Operation) (k : ℕ) (b : Bool) → k < 128 → g ≡ nth_operation k → negative_code (k / 2) ≡ b →
    (determinant (value g) ≡ whole (pos 1)) ⊎ (determinant (value g) ≡ whole (negsuc 0))
unfolding nth_operation
by_code g k true h e f = inr (det_at (k / 2) (nat_eq (k % 2) 1) true g (negsuc 0) (omega arith) (sym e) f refl)
by_code g k false h e f = inl (det_at (k / 2) (nat_eq (k % 2) 1) false g (pos 1) (omega arith) (sym e) f refl)

-- of the operation at a place among all
pub unit_determinant : (g : Operation) (k : ℕ) → k < 128 → g ≡ nth_operation k →
    (determinant (value g) ≡ whole (pos 1)) ⊎ (determinant (value g) ≡ whole (negsuc 0))
unit_determinant g k h e = by_code g k (negative_code (k / 2)) h e refl

-- Signed permutation matrices and what they do to components.
--   image    the column in which a row has its entry
--   entry_sign    the sign of that entry
--   signs_of    the product of the signs at the first k places
--   HasColumns    each row has its entry in a column
--   IsPermutation    no two rows have their entries in one column
--   StandsFor    p stands for the operation g: where each row has its entry 1 or -1, and the sign by the marks
--   StandForAll    the same for two lists
use Rattle.std.specs.Prelude.{◌≡◌, ◌≢◌, ℕ, ◌<◌, List, [], length, get_or, false}
use Rattle.std.proofs.Common.{cond, zero, suc}
use Rattle.tensor_defs.specs.declared.Sign.{Sign}
use Rattle.tensor_defs.specs.declared.Sign.TheVariants.{Plus, Minus}
use Rattle.sign_moves.specs.Prelude.{times, signed, Moves}
use Rattle.tensor_defs.specs.Prelude.{num_zero, num_one, Axis, Operation, value, identity, Marks, sign, axis_place, axis_at}
use Rattle.tensor_rank.specs.Digits.{digit_of, number_of}
use Rattle.constraint_rows.specs.declared.ops.PlainOp.{PlainOp}

-- the column in which a row has its entry
abbrev pub image : PlainOp → ℕ → ℕ
image op d = get_or op.images d 0

-- the sign of that entry
abbrev pub entry_sign : PlainOp → ℕ → Sign
entry_sign op d = cond (get_or op.negates d false) Minus Plus

unfoldable pub op_carried : ℕ → PlainOp → ℕ → ℕ
op_carried r op c = number_of r (λ p. image op (digit_of r c p))

-- the product of the signs at the first k places
abbrev pub signs_of : PlainOp → (ℕ → ℕ) → ℕ → Sign
signs_of op digit zero = Plus
signs_of op digit (suc k) = times (signs_of op digit k) (entry_sign op (digit k))

abbrev pub op_sign : ℕ → PlainOp → ℕ → Sign
op_sign r op c = times op.whole (signs_of op (digit_of r c) r)

abbrev pub op_at : List PlainOp → ℕ → PlainOp
op_at ops k = get_or ops k (record { images = []; negates = []; whole = Plus })

-- each row has its entry in a column
pub record HasColumns (op : PlainOp) : Type 0 where
  pub small : (d : ℕ) → d < 3 → image op d < 3

-- no two rows have their entries in one column
pub record IsPermutation (op : PlainOp) : Type 0 where
  pub columns : HasColumns op
  pub injective : (d e : ℕ) → d < 3 → e < 3 → image op d ≡ image op e → d ≡ e

pub record ArePermutations (ops : List PlainOp) : Type 0 where
  pub each : (k : ℕ) → k < length ops → IsPermutation (op_at ops k)

pub record AllHaveColumns (ops : List PlainOp) : Type 0 where
  pub each : (k : ℕ) → k < length ops → HasColumns (op_at ops k)

abbrev pub op_moves : ℕ → List PlainOp → Moves
op_moves r ops = record {
  count = length ops;
  carried = λ k c. op_carried r (op_at ops k) c;
  sign = λ k c. op_sign r (op_at ops k) c;
}

-- p stands for the operation g: where each row has its entry 1 or -1, and the sign by the marks
pub record StandsFor (m : Marks) (g : Operation) (p : PlainOp) : Type 0 where
  pub permutation : IsPermutation p
  pub entry : (i : Axis) → value g i (axis_at (image p (axis_place i))) ≡ signed (entry_sign p (axis_place i)) num_one
  pub other : (i j : Axis) → axis_place j ≢ image p (axis_place i) → value g i j ≡ num_zero
  pub whole : sign m g ≡ signed p.whole num_one

-- the same for two lists
pub record StandForAll (m : Marks) (gs : List Operation) (ps : List PlainOp) : Type 0 where
  pub len : length ps ≡ length gs
  pub each : (k : ℕ) → k < length gs → StandsFor m (get_or gs k identity) (op_at ps k)

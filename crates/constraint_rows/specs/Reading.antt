-- The reading of a row of a signed permutation matrix.
--   is_unit, is_minus    an entry is 1 or -1; it is -1
--   unit_column     the first column with such an entry, from 0
--   row_negates     one of three entries is -1
--   RowReads        three numbers are 1 or -1 at a column, and 0 elsewhere
use Rattle.std.specs.Prelude.{◌≡◌, ◌≢◌, ℕ, ◌<◌, Bool, true, false}
use Rattle.std.proofs.Common.{cond}
use Rattle.op_matrix.specs.declared.entry.Entry.{Entry}
use Rattle.op_matrix.specs.declared.entry.Entry.TheVariants.{One, HalfRoot3, Half, Zero, MinusHalf, MinusHalfRoot3, MinusOne}
use Rattle.tensor_defs.specs.declared.Sign.TheVariants.{Plus, Minus}
use Rattle.tensor_defs.specs.Prelude.{Number, num_zero, num_one, Axis, axis_place, axis_at}
use Rattle.sign_moves.specs.Signs.{signed}

abbrev pub is_unit : Entry → Bool
is_unit One = true
is_unit HalfRoot3 = false
is_unit Half = false
is_unit Zero = false
is_unit MinusHalf = false
is_unit MinusHalfRoot3 = false
is_unit MinusOne = true

abbrev pub is_minus : Entry → Bool
is_minus One = false
is_minus HalfRoot3 = false
is_minus Half = false
is_minus Zero = false
is_minus MinusHalf = false
is_minus MinusHalfRoot3 = false
is_minus MinusOne = true

abbrev pub unit_column : Entry → Entry → ℕ
unit_column a b = cond (is_unit a) 0 (cond (is_unit b) 1 2)

abbrev pub row_negates : Entry → Entry → Entry → Bool
row_negates a b c = cond (is_minus a) true (cond (is_minus b) true (is_minus c))

pub record RowReads (f : Axis → Number) (column : ℕ) (negates : Bool) : Type 0 where
  pub small : column < 3
  pub entry : f (axis_at column) ≡ signed (cond negates Minus Plus) num_one
  pub other : (j : Axis) → axis_place j ≢ column → f j ≡ num_zero

-- Fractions that the program holds.
--   IsHeld        a fraction in lowest terms, with both magnitudes below the limit
--   IsHeldAs      the number is this fraction, which can be held
--   signed, is_negative, opposite    a magnitude with a sign; whether a whole number is negative; whether two signs differ
--   quotient      p divided by d, whole numbers of either sign
--   inverse_of    1 divided by a fraction
--   zero_over_one, one_over_two    the fractions 0/1 and 1/2
-- Source: lowest terms as in any textbook. The limit is this project's own.
use Rattle.std.specs.Prelude.{◌≡◌, ℕ, suc, ◌<◌, Bool, true, false, unsigned_abs}
use lib.IntN.{ℤ, pos, negsuc, neg_ℤ}
use Rattle.tensor_defs.specs.Number.{Number, Fraction, IsLowest, value_of, over, limit}

pub record IsHeld (f : Fraction) : Type 0 where
  pub terms : IsLowest f
  pub small_num : unsigned_abs f.num < limit
  pub small_den : f.den < limit

pub record IsHeldAs (x : Number) (f : Fraction) : Type 0 where
  pub same : x ≡ value_of f
  pub held : IsHeld f

-- a magnitude, negative where the test says so
abbrev pub signed : Bool → ℕ → ℤ
signed true n = neg_ℤ (pos n)
signed false n = pos n

abbrev pub is_negative : ℤ → Bool
is_negative (pos n) = false
is_negative (negsuc n) = true

-- whether two whole numbers have different signs, 0 counting as positive
abbrev pub opposite : ℤ → ℤ → Bool
opposite (pos m) (pos n) = false
opposite (pos m) (negsuc n) = true
opposite (negsuc m) (pos n) = true
opposite (negsuc m) (negsuc n) = false

-- p/d; 0 where d is 0
abbrev pub quotient : ℤ → ℤ → Number
quotient p (pos d) = over p d
quotient p (negsuc d) = over (neg_ℤ p) (suc d)

-- the denominator over the numerator
abbrev pub inverse_of : Fraction → Number
inverse_of f = quotient (pos f.den) f.num

abbrev pub zero_over_one : Fraction
zero_over_one = record { num = pos 0; den = 1 }

abbrev pub one_over_two : Fraction
one_over_two = record { num = pos 1; den = 2 }

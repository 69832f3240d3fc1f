-- What the operations on fractions answer.
--   IsExact       the number's fraction, or the refusal exactly where the number reaches the limit
--   IsNew         the same for a quotient of whole numbers, with a refusal of its own at the divisor 0
-- Source: this project's own.
use Rattle.std.specs.Prelude.{◌≡◌, ◌≢◌, Result, Ok, Err}
use lib.IntN.{ℤ, pos}
use Rattle.tensor_defs.specs.Number.{Number, Fraction, ReachesLimit}
use Rattle.exact_frac.specs.Held.{IsHeldAs, quotient}
use Rattle.exact_frac.specs.declared.frac.TooLarge.{TooLarge}
use Rattle.exact_frac.specs.declared.frac.FracFault.{FracFault}
use Rattle.exact_frac.specs.declared.frac.FracFault.TheVariants as fault

-- no fraction that is held reaches the limit, so these two exclude each other
abbrev pub IsExact : Number → Result Fraction TooLarge → Type 0
IsExact x (Ok f) = IsHeldAs x f
IsExact x (Err e) = ReachesLimit x

abbrev pub IsNew : ℤ → ℤ → Result Fraction FracFault → Type 0
IsNew p d (Ok f) = (d ≢ pos 0) × IsHeldAs (quotient p d) f
IsNew p d (Err fault.ZeroDenominator) = d ≡ pos 0
IsNew p d (Err fault.TooLarge) = (d ≢ pos 0) × ReachesLimit (quotient p d)

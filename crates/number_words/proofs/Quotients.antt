-- Quotients of numbers of at most 18 digits.
--   new_held        such a quotient is held
--   wide            such a number as a signed one
use Rattle.list_laws.proofs.Kit.{◌≡◌, ℕ, ◌<◌, ◌^◌, ap, arith, refl, Result, Ok, Err, IsOk, to_z_pos}
use lib.IntN.{pos}
use mir.Syntax.{w64}
use mir.Val.{to_z}
use Rattle.std.specs.Prelude.{unsigned_abs}
use Rattle.tensor_defs.specs.Number.{Fraction}
use Rattle.exact_frac.specs.Exact.{IsNew}
use Rattle.exact_frac.specs.declared.frac.FracFault.{FracFault}
use Rattle.exact_frac.specs.declared.frac.FracFault.TheVariants as fault
use Rattle.tensor_action.proofs.FactorLaws.{small-calm}

pub new_held : (num den : ℕ) (r : Result Fraction FracFault) → 0 < den → num < 10 ^ 18 → den < 10 ^ 18 → IsNew (pos num) (pos den) r → IsOk r
new_held num den (Ok f) h t b n = refl
new_held num den (Err fault.ZeroDenominator) h t b n = absurd (let z : den ≡ 0 = ap unsigned_abs n in omega arith)
new_held num den (Err fault.TooLarge) h t b n = absurd (small-calm (pos num) den h (omega arith) (omega arith) n.1)

pub wide : (n : ℕ) → n < 10 ^ 18 → to_z w64 n ≡ pos n
wide n h = to_z_pos w64 n (omega arith)

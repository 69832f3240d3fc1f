-- Signs and magnitudes.
use Rattle.std.proofs.Common.{◌≡◌, ◌≢◌, ℕ, zero, suc, ◌*◌, ◌<◌, Bool, true, false, refl, arith}
use Rattle.std.specs.Prelude.{unsigned_abs}
use lib.IntN.{ℤ, pos, negsuc, ◌*ℤ◌, neg_ℤ}
use lib.Signed.{lt_z}
use borrow.Author.Differences.{ints}
use Rattle.tensor_defs.specs.Prelude.{neg-mul_ℤ}
use Rattle.exact_frac.specs.Held.{signed, is_negative, opposite}

pub size-neg : (n : ℤ) → unsigned_abs (neg_ℤ n) ≡ unsigned_abs n
size-neg (pos zero) = refl
size-neg (pos (suc m)) = refl
size-neg (negsuc m) = refl

pub size-signed : (b : Bool) (n : ℕ) → unsigned_abs (signed b n) ≡ n
size-signed true n = size-neg (pos n)
size-signed false n = refl

pub signed-is : (n : ℤ) → signed (is_negative n) (unsigned_abs n) ≡ n
signed-is (pos a) = refl
signed-is (negsuc a) = refl

pub signed-mul : (p q : ℤ) → signed (opposite p q) (unsigned_abs p * unsigned_abs q) ≡ p *ℤ q
signed-mul (pos a) (pos b) = refl
signed-mul (pos a) (negsuc b) = refl
signed-mul (negsuc a) (pos b) = refl
signed-mul (negsuc a) (negsuc b) = refl

pub signed-scale : (b : Bool) (k g : ℕ) → signed b k *ℤ pos g ≡ signed b (k * g)
signed-scale true k g = neg-mul_ℤ (pos k) (pos g)
signed-scale false k g = refl

pub size-positive : (d : ℤ) → d ≢ pos 0 → 0 < unsigned_abs d
size-positive (pos zero) h = absurd (h refl)
size-positive (pos (suc a)) h = omega arith
size-positive (negsuc a) h = omega arith

pub below-zero : (z : ℤ) → lt_z z (pos 0) ≡ is_negative z
below-zero (pos a) = grind (arith, ints)
below-zero (negsuc a) = refl

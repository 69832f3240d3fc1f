-- Sums of products of fractions' parts fit 128 bits.
use Rattle.list_laws.proofs.Kit.{◌≡◌, ℕ, ◌+◌, ◌*◌, ◌<◌, ◌≤◌, ◌^◌, ap, sym, ◌∙◌, subst, arith, lit<, nat_eq, IsTrue, true, to_z-of_z, to_z_pos}
use Rattle.list_laws.proofs.Kit.{fits_signed_mul, fits_signed_from_abs, unsigned_abs-mul, mul-le, nat_tests}
use Rattle.std.specs.Prelude.{unsigned_abs}
use borrow.Author.Differences.{ints}
use lib.IntN.{ℤ, pos, negsuc, ◌+ℤ◌, ◌*ℤ◌, ◌-ℤ◌, neg_ℤ}
use mir.Val.{to_z, of_z, SFits}
use mir.Syntax.{w64, w128}
use Rattle.tensor_defs.specs.Number.{over, num_zero}
use Rattle.exact_frac.proofs.Overs.{over-zero, over-is_zero}

pub size-add : (a b : ℤ) → unsigned_abs (a +ℤ b) ≤ unsigned_abs a + unsigned_abs b
size-add (pos a) (pos b) = omega arith
size-add (pos a) (negsuc b) = omega (arith, ints)
size-add (negsuc a) (pos b) = omega (arith, ints)
size-add (negsuc a) (negsuc b) = omega arith

-- the bits of a small whole number
pub narrow : (p : ℤ) → unsigned_abs p < 2 ^ 62 → to_z w64 (of_z w64 p) ≡ p
narrow p h = to_z-of_z w64 p (fits_signed_from_abs w64 p (omega arith))

pub negated : (p : ℤ) → unsigned_abs p < 2 ^ 62 → to_z w64 (of_z w64 (pos 0 -ℤ to_z w64 (of_z w64 p))) ≡ neg_ℤ p
negated p h = let f : SFits w64 p = fits_signed_from_abs w64 p (omega arith) in omega (arith, ints)

-- the test for 0
pub zero_test : (p : ℤ) (n : ℕ) → 0 < n → unsigned_abs p < 2 ^ 62 →
    (IsTrue (nat_eq (of_z w64 p) 0) → over p n ≡ num_zero) × (over p n ≡ num_zero → IsTrue (nat_eq (of_z w64 p) 0))
zero_test p n h k = (
  λ t. ap (λ z. over z n) (of_z-zero p (fits_signed_from_abs w64 p (omega arith)) (tells (of_z w64 p) t)) ∙ over-zero n,
  λ e. told (of_z w64 p) (ap (of_z w64) (over-is_zero p n h e)),
)
  where
    of_z-zero : (z : ℤ) → SFits w64 z → of_z w64 z ≡ 0 → z ≡ pos 0
    of_z-zero z f e = omega (arith, ints)

    tells : (n : ℕ) → nat_eq n 0 ≡ true → n ≡ 0
    tells n e = grind (arith, nat_tests)

    told : (n : ℕ) → n ≡ 0 → nat_eq n 0 ≡ true
    told n e = grind (arith, nat_tests)

pub wide : (p : ℤ) → unsigned_abs p < 2 ^ 62 → to_z w128 (of_z w128 (to_z w64 (of_z w64 p))) ≡ p
wide p h =
    ap (λ z. to_z w128 (of_z w128 z)) (narrow p h)
    ∙ to_z-of_z w128 p (fits_signed_from_abs w128 p (omega arith))

pub wide_nat : (n : ℕ) → n < 2 ^ 62 → to_z w128 n ≡ pos n
wide_nat n h = to_z_pos w128 n (omega arith)

pub below_product : (a b : ℕ) → a < 2 ^ 62 → b < 2 ^ 62 → a * b ≤ 2 ^ 124
below_product a b h k = mul-le a b (2 ^ 62) (2 ^ 62) (omega arith) (omega arith)

product_fits : (p q : ℤ) → unsigned_abs p < 2 ^ 62 → unsigned_abs q < 2 ^ 62 → SFits w128 (p *ℤ q)
product_fits p q h k = fits_signed_mul w128 p q (2 ^ 62) (2 ^ 62) (omega arith) (omega arith) (lit< tt)

sum_fits : (p q : ℤ) (m n : ℕ) → unsigned_abs p < 2 ^ 62 → unsigned_abs q < 2 ^ 62 → m < 2 ^ 62 → n < 2 ^ 62 →
    SFits w128 ((p *ℤ pos n) +ℤ (q *ℤ pos m))
sum_fits p q m n h k i j =
    fits_signed_from_abs w128 _ (omega (
      arith,
      size-add (p *ℤ pos n) (q *ℤ pos m),
      unsigned_abs-mul p (pos n),
      unsigned_abs-mul q (pos m),
      below_product (unsigned_abs p) n h j,
      below_product (unsigned_abs q) m k i,
    ))

pub times_fits : (p : ℤ) (n : ℕ) → unsigned_abs p < 2 ^ 62 → n < 2 ^ 62 →
    SFits w128 (to_z w128 (of_z w128 (to_z w64 (of_z w64 p))) *ℤ to_z w128 n)
times_fits p n h k = subst (SFits w128) (λ i. sym (wide p h) i *ℤ sym (wide_nat n k) i) (product_fits p (pos n) h k)

times_is : (p : ℤ) (n : ℕ) → unsigned_abs p < 2 ^ 62 → n < 2 ^ 62 →
    to_z w128 (of_z w128 (to_z w128 (of_z w128 (to_z w64 (of_z w64 p))) *ℤ to_z w128 n)) ≡ p *ℤ pos n
times_is p n h k = to_z-of_z w128 _ (times_fits p n h k) ∙ (λ i. wide p h i *ℤ wide_nat n k i)

pub sums_fit : (p q : ℤ) (m n : ℕ) → unsigned_abs p < 2 ^ 62 → unsigned_abs q < 2 ^ 62 → m < 2 ^ 62 → n < 2 ^ 62 →
    SFits w128 (to_z w128 (of_z w128 (to_z w128 (of_z w128 (to_z w64 (of_z w64 p))) *ℤ to_z w128 n))
    +ℤ to_z w128 (of_z w128 (to_z w128 (of_z w128 (to_z w64 (of_z w64 q))) *ℤ to_z w128 m)))
sums_fit p q m n h k i j =
    subst (SFits w128) (λ t. sym (times_is p n h j) t +ℤ sym (times_is q m k i) t) (sum_fits p q m n h k i j)

pub sums_are : (p q : ℤ) (m n : ℕ) → unsigned_abs p < 2 ^ 62 → unsigned_abs q < 2 ^ 62 → m < 2 ^ 62 → n < 2 ^ 62 →
    to_z w128 (of_z w128 (to_z w128 (of_z w128 (to_z w128 (of_z w128 (to_z w64 (of_z w64 p))) *ℤ to_z w128 n))
    +ℤ to_z w128 (of_z w128 (to_z w128 (of_z w128 (to_z w64 (of_z w64 q))) *ℤ to_z w128 m)))) ≡ (p *ℤ pos n) +ℤ (q *ℤ pos m)
sums_are p q m n h k i j =
    to_z-of_z w128 _ (sums_fit p q m n h k i j) ∙ (λ t. times_is p n h j t +ℤ times_is q m k i t)

-- a sum at one denominator fits 64 bits
pub plain_sum_is : (p q : ℤ) → unsigned_abs p < 2 ^ 62 → unsigned_abs q < 2 ^ 62 →
    to_z w64 (of_z w64 (to_z w64 (of_z w64 p) +ℤ to_z w64 (of_z w64 q))) ≡ p +ℤ q
plain_sum_is p q h k =
    ap (λ z. to_z w64 (of_z w64 z)) (λ i. narrow p h i +ℤ narrow q k i)
    ∙ to_z-of_z w64 (p +ℤ q) (fits_signed_from_abs w64 _ (omega (arith, size-add p q)))

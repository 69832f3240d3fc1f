-- The numbers of parts in lowest terms.
--   value-scale    a factor of both parts goes
--   reaches    parts in lowest terms of which one is large
--   inverse-parts    1 divided by a fraction other than 0, as parts
--   inverse-held    the parts of 1 divided by a fraction other than 0
--   value-sum_same    a sum at one denominator, by its sign and size
--   value-sum    a sum where the common divisor of the denominators is taken out
--   held-below    no fraction that is held reaches the limit
use Rattle.list_laws.proofs.Kit.{◌≡◌, ◌≢◌, ℕ, zero, suc, ◌*◌, ◌<◌, ◌≤◌, ◌⊎◌, Bool, inl, inr, refl, ap, sym, ◌∙◌, subst, arith, lit<, IsGcd, IsGcd-swap}
use Rattle.std.specs.Prelude.{unsigned_abs}
use lib.IntN.{ℤ, pos, negsuc, ◌+ℤ◌, ◌*ℤ◌, neg_ℤ, *ℤ_comm}
use Rattle.number_laws.proofs.Fractions.{over-whole}
use Rattle.tensor_defs.specs.Prelude.{positive_mul, mul-zero_ℤ, Number, Fraction, IsLowest, value_of, over, add, mul, num_zero, num_one, ReachesLimit, limit}
use Rattle.number_laws.proofs.Limit.{tells_limit, limit_told}
use Rattle.exact_frac.specs.Held.{IsHeld, IsHeldAs, signed, is_negative, opposite, inverse_of, quotient}
use Rattle.exact_frac.proofs.Overs.{over-scale, over-add_same, over-add_common, over-mul, over-same, over-zero}
use Rattle.exact_frac.proofs.Signs.{signed-scale, signed-mul, signed-is, size-signed, size-neg, size-positive}

-- a factor of both parts goes
pub value-scale : (b : Bool) (k e g a d : ℕ) → 0 < e → 0 < g → k * g ≡ a → e * g ≡ d → over (signed b k) e ≡ over (signed b a) d
value-scale b k e g a d h l u v =
    sym (over-scale (signed b k) e g h l) ∙ (λ i. over ((signed-scale b k g ∙ ap (signed b) u) i) (v i))

pub value-product : (p q : ℤ) (m n f s k o l r : ℕ) → 0 < m → 0 < n → 0 < f → 0 < s → 0 < l → 0 < r →
    k * f ≡ unsigned_abs p → o * s ≡ unsigned_abs q → l * s ≡ m → r * f ≡ n →
    over (signed (opposite p q) (k * o)) (l * r) ≡ mul (over p m) (over q n)
value-product p q m n f s k o l r hm hn hf hs hl hr ek eo el er =
    value-scale (opposite p q) (k * o) (l * r) (f * s) (unsigned_abs p * unsigned_abs q) (m * n)
    (positive_mul hl hr) (positive_mul hf hs)
    (swap k o f s ∙ (λ i. ek i * eo i)) (ap (λ x. (l * r) * x) (times f s) ∙ swap l r s f ∙ (λ i. el i * er i))
    ∙ ap (λ z. over z (m * n)) (signed-mul p q) ∙ sym (over-mul p q m n hm hn)
  where
    swap : (a b c d : ℕ) → (a * b) * (c * d) ≡ (a * c) * (b * d)
    swap a b c d = omega arith

    times : (a b : ℕ) → a * b ≡ b * a
    times a b = omega arith

-- parts in lowest terms of which one is large
pub reaches : (b : Bool) (k e : ℕ) → 0 < e → IsGcd k e 1 → (limit ≤ k) ⊎ (limit ≤ e) → ReachesLimit (over (signed b k) e)
reaches b k e h l u =
    tells_limit (record { num = signed b k; den = e })
    (record { positive = h; lowest = subst (λ n. IsGcd n e 1) (sym (size-signed b k)) l })
    (subst (λ n. (limit ≤ n) ⊎ (limit ≤ e)) (sym (size-signed b k)) u)

pub numerator : (f : Fraction) → 0 < f.den → value_of f ≢ num_zero → f.num ≢ pos 0
numerator f h z e = z (ap (λ n. over n f.den) e ∙ over-zero f.den)

-- 1 divided by a fraction other than 0, as parts
pub inverse-parts : (p : ℤ) (n : ℕ) → p ≢ pos 0 → over (signed (is_negative p) n) (unsigned_abs p) ≡ quotient (pos n) p
inverse-parts (pos a) n h = refl
inverse-parts (negsuc a) n h = refl

pub numerator-positive : (f : Fraction) → IsLowest f → value_of f ≢ num_zero → 0 < unsigned_abs f.num
numerator-positive f t z = size-positive f.num (numerator f t.positive z)

pub inverse-mul : (f : Fraction) → IsLowest f → value_of f ≢ num_zero → mul (value_of f) (inverse_of f) ≡ num_one
inverse-mul f t z =
    let h : f.num ≢ pos 0 = numerator f t.positive z in
    let l : 0 < unsigned_abs f.num = size-positive f.num h in
    ap (λ x. mul (value_of f) x) (sym (inverse-parts f.num f.den h))
    ∙ over-mul f.num (signed (is_negative f.num) f.den) f.den (unsigned_abs f.num) t.positive l
    ∙ over-same _ (pos 1) (f.den * unsigned_abs f.num) 1 (positive_mul t.positive l) (lit< tt) (square f.num f.den)
    ∙ over-whole (pos 1)
  where
    square : (p : ℤ) (n : ℕ) → (p *ℤ signed (is_negative p) n) *ℤ pos 1 ≡ pos 1 *ℤ pos (n * unsigned_abs p)
    square p n = *ℤ_comm (p *ℤ signed (is_negative p) n) (pos 1) ∙ ap (λ z. pos 1 *ℤ z) (at p n)
      where
        at : (p : ℤ) (n : ℕ) → p *ℤ signed (is_negative p) n ≡ pos (n * unsigned_abs p)
        at (pos a) n = ap pos (omega arith)
        at (negsuc a) zero = mul-zero_ℤ (negsuc a) ∙ ap pos (omega arith)
        at (negsuc a) (suc n) = ap pos (omega arith)

-- the parts of 1 divided by a fraction other than 0
pub inverse-held : (f : Fraction) → IsHeld f → value_of f ≢ num_zero →
    IsHeld (record { num = signed (is_negative f.num) f.den; den = unsigned_abs f.num })
inverse-held f h z =
    let e = size-signed (is_negative f.num) f.den in
    record {
      terms = record {
        positive = numerator-positive f h.terms z;
        lowest = subst (λ n. IsGcd n (unsigned_abs f.num) 1) (sym e) (IsGcd-swap (unsigned_abs f.num) f.den 1 h.terms.lowest);
      };
      small_num = subst (λ n. n < limit) (sym e) h.small_den;
      small_den = h.small_num;
    }

pub neg-held : (f : Fraction) → IsHeld f → IsHeld (record { num = neg_ℤ f.num; den = f.den })
neg-held f h =
    let e = size-neg f.num in
    record {
      terms = record { positive = h.terms.positive; lowest = subst (λ n. IsGcd n f.den 1) (sym e) h.terms.lowest };
      small_num = subst (λ n. n < limit) (sym e) h.small_num;
      small_den = h.small_den;
    }

-- a sum at one denominator, by its sign and size
pub value-sum_same : (p q : ℤ) (d : ℕ) → 0 < d →
    over (signed (is_negative (p +ℤ q)) (unsigned_abs (p +ℤ q))) d ≡ add (over p d) (over q d)
value-sum_same p q d h = ap (λ z. over z d) (signed-is (p +ℤ q)) ∙ sym (over-add_same p q d h)

-- a sum where the common divisor of the denominators is taken out
pub value-sum : (p q : ℤ) (m n l r g : ℕ) → 0 < l → 0 < r → 0 < g → l * g ≡ m → r * g ≡ n →
    over ((p *ℤ pos r) +ℤ (q *ℤ pos l)) ((l * r) * g) ≡ add (over p m) (over q n)
value-sum p q m n l r g h k i u v = sym (over-add_common p q l r g h k i) ∙ (λ j. add (over p (u j)) (over q (v j)))

-- no fraction that is held reaches the limit
pub held-below : (f : Fraction) → IsHeld f → ReachesLimit (value_of f) → ⊥
held-below f h r = elim (limit_told f h.terms r) [
  | inl e ↦ let k = h.small_num in omega (arith, e, k)
  | inr e ↦ let k = h.small_den in omega (arith, e, k)
]

pub held-not_large : (x : Number) (f : Fraction) → IsHeldAs x f → ReachesLimit x → ⊥
held-not_large x f h r = held-below f h.held (subst ReachesLimit h.same r)

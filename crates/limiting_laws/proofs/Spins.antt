-- Powers of unit numbers: the factor of a word under a rotation, and that no power of (3 + 4i)/5 but the first is 1.
--   power, cancel   the powers of a number, and that those of a unit number can be taken away
--   phase_power     the factor of a word is the power of its count of + less its count of -
--   fixed_zero      what a power of (3 + 4i)/5 other than 1 leaves the same is 0
use Rattle.list_laws.proofs.Kit.{◌≡◌, ◌≢◌, ℕ, zero, suc, ◌+◌, ◌-◌, ◌<◌, [], ◌∷◌, refl, ap, sym, ◌∙◌, arith, inl, inr, lit<, cases_order}
use borrow.Author.Differences.{ints}
use lib.IntN.{ℤ, pos, negsuc, ◌+ℤ◌, ◌*ℤ◌, +ℤ_idr}
use Rattle.number_laws.proofs.Fractions.{fraction-cancel}
use Rattle.number_laws.proofs.NumberLaws.{num_add-zero, num_add-neg, num_mul-zero, num_mul_assoc, num_neg-neg, num_one-mul, num_zero-mul, ring}
use Rattle.tensor_defs.specs.Prelude.{mul-zero_ℤ, ring_ℤ, Number, add, mul, neg, num_zero, num_one, whole, fraction, same_numbers, level, plus, minus, Word}
use Rattle.tensor_defs.specs.Prelude.{plus_count, minus_count}
use Rattle.tensor_laws.proofs.Prelude.{complex_same, phase, halve, c_mul_assoc}
use Rattle.tensor_laws.specs.WordSums.{Complex, c_mul}
use Rattle.constraint_rows.proofs.GatherLaws.{whole-add}

-- ---- products
abbrev pub c_one : Complex
c_one = record { re = num_one; im = num_zero }

abbrev pub c_zero : Complex
c_zero = record { re = num_zero; im = num_zero }

c_mul_comm : (a b : Complex) → c_mul a b ≡ c_mul b a
c_mul_comm a b = complex_same (law_re (whole (negsuc 0)) a.re a.im b.re b.im) (law_im a.re a.im b.re b.im)
  where
    law_re : (m p q r s : Number) → add (mul p r) (mul m (mul q s)) ≡ add (mul r p) (mul m (mul s q))
    law_re m p q r s = simp ring

    law_im : (p q r s : Number) → add (mul p s) (mul q r) ≡ add (mul r q) (mul s p)
    law_im p q r s = simp ring

c_mul_left_comm : (a b z : Complex) → c_mul a (c_mul b z) ≡ c_mul b (c_mul a z)
c_mul_left_comm a b z = sym (c_mul_assoc a b z) ∙ ap (λ x. c_mul x z) (c_mul_comm a b) ∙ c_mul_assoc b a z

pub c_one-mul : (z : Complex) → c_mul c_one z ≡ z
c_one-mul z =
    complex_same (simp (num_one-mul, num_zero-mul, num_mul-zero, num_add-zero))
    (simp (num_one-mul, num_zero-mul, num_add-zero))

pub c_mul-zero : (a : Complex) → c_mul a c_zero ≡ c_zero
c_mul-zero a = complex_same (simp (num_mul-zero, num_add-zero)) (simp (num_mul-zero, num_add-zero))

exchange : (a b d e : Complex) → c_mul (c_mul a b) (c_mul d e) ≡ c_mul (c_mul a d) (c_mul b e)
exchange a b d e =
    c_mul_assoc a b (c_mul d e) ∙ ap (c_mul a) (c_mul_left_comm b d e) ∙ sym (c_mul_assoc a d (c_mul b e))

-- ---- powers
abbrev pub turn : Number → Number → Complex
turn c s = record { re = c; im = s }

abbrev pub power : Complex → ℕ → Complex
power u zero = c_one
power u (suc n) = c_mul u (power u n)

power-add : (u : Complex) (n k : ℕ) → power u (n + k) ≡ c_mul (power u n) (power u k)
power-add u zero k = let e : 0 + k ≡ k = omega arith in ap (power u) e ∙ sym (c_one-mul (power u k))
power-add u (suc n) k =
    let e : suc n + k ≡ suc (n + k) = omega arith in
    ap (power u) e ∙ ap (c_mul u) (power-add u n k) ∙ sym (c_mul_assoc u (power u n) (power u k))

module _ (c s : Number) (unit : add (mul c c) (mul s s) ≡ num_one) where
  back : c_mul (turn c (neg s)) (turn c s) ≡ c_one
  back = complex_same (law_re c s ∙ unit) (law_im (whole (negsuc 0)) c s ∙ num_add-neg (mul c s))
    where
      law_re : (c s : Number) → add (mul c c) (neg (mul (neg s) s)) ≡ add (mul c c) (mul s s)
      law_re c s =
          let e : neg (mul (neg s) s) ≡ neg (neg (mul s s)) = ap neg (num_mul_assoc (whole (negsuc 0)) s s) in
          ap (add (mul c c)) (e ∙ num_neg-neg (mul s s))

      law_im : (m c s : Number) → add (mul c s) (mul (mul m s) c) ≡ add (mul c s) (mul m (mul c s))
      law_im m c s = simp ring

  back_power : (n : ℕ) → c_mul (power (turn c (neg s)) n) (power (turn c s) n) ≡ c_one
  back_power zero = c_one-mul c_one
  back_power (suc n) =
      exchange (turn c (neg s)) (power (turn c (neg s)) n) (turn c s) (power (turn c s) n)
      ∙ (λ i. c_mul (back i) (back_power n i)) ∙ c_one-mul c_one

  pub cancel : (n : ℕ) (z z' : Complex) → c_mul (power (turn c s) n) z ≡ c_mul (power (turn c s) n) z' → z ≡ z'
  cancel n z z' e = sym (undone z) ∙ ap (c_mul (power (turn c (neg s)) n)) e ∙ undone z'
    where
      undone : (z : Complex) → c_mul (power (turn c (neg s)) n) (c_mul (power (turn c s) n) z) ≡ z
      undone z =
          sym (c_mul_assoc (power (turn c (neg s)) n) (power (turn c s) n) z) ∙ ap (λ x. c_mul x z) (back_power n)
          ∙ c_one-mul z

  -- the factor of a word, with its count of - put on the other side
  pub phase_power : (w : Word) →
      c_mul (phase c s w) (power (turn c s) (minus_count w)) ≡ power (turn c s) (plus_count w)
  phase_power [] = c_one-mul c_one
  phase_power (level ∷ w) = phase_power w
  phase_power (plus ∷ w) =
      let e : suc (plus_count w) ≡ 1 + plus_count w = omega arith in
      c_mul_assoc (turn c s) (phase c s w) (power (turn c s) (minus_count w)) ∙ ap (c_mul (turn c s)) (phase_power w)
      ∙ ap (power (turn c s)) e
  phase_power (minus ∷ w) =
      let e : 1 + minus_count w ≡ suc (minus_count w) = omega arith in
      ap (λ n. c_mul (c_mul (turn c (neg s)) (phase c s w)) (power (turn c s) n)) e
      ∙ exchange (turn c (neg s)) (phase c s w) (turn c s) (power (turn c s) (minus_count w))
      ∙ (λ i. c_mul (back i) (phase_power w i)) ∙ c_one-mul (power (turn c s) (plus_count w))

  -- with as many + as -, the factor is 1
  pub even_phase : (w : Word) → plus_count w ≡ minus_count w → (z : Complex) → c_mul (phase c s w) z ≡ z
  even_phase w e z =
      cancel (minus_count w) (c_mul (phase c s w) z) z
      (sym (c_mul_assoc (power (turn c s) (minus_count w)) (phase c s w) z)
      ∙ ap (λ x. c_mul x z) (c_mul_comm (power (turn c s) (minus_count w)) (phase c s w) ∙ phase_power w
      ∙ ap (power (turn c s)) e))

  -- a sum that a word's factor leaves the same has two powers that agree on it
  powers_agree : (w : Word) (z : Complex) → z ≡ c_mul (phase c s w) z →
      c_mul (power (turn c s) (plus_count w)) z ≡ c_mul (power (turn c s) (minus_count w)) z
  powers_agree w z e =
      ap (λ x. c_mul x z) (sym (phase_power w)) ∙ c_mul_assoc (phase c s w) (power (turn c s) (minus_count w)) z
      ∙ c_mul_left_comm (phase c s w) (power (turn c s) (minus_count w)) z
      ∙ ap (c_mul (power (turn c s) (minus_count w))) (sym e)

  apart : (p q : ℕ) (z : Complex) → q < p → c_mul (power (turn c s) p) z ≡ c_mul (power (turn c s) q) z →
      c_mul (power (turn c s) (suc (p - suc q))) z ≡ z
  apart p q z l e =
      let k : p ≡ q + suc (p - suc q) = omega arith in
      cancel q (c_mul (power (turn c s) (suc (p - suc q))) z) z
      (sym (c_mul_assoc (power (turn c s) q) (power (turn c s) (suc (p - suc q))) z)
      ∙ ap (λ x. c_mul x z) (sym (ap (power (turn c s)) k ∙ power-add (turn c s) q (suc (p - suc q)))) ∙ e)

  -- where the counts differ, a power other than the first leaves it the same
  pub power_fixes : (w : Word) (z : Complex) → plus_count w ≢ minus_count w → z ≡ c_mul (phase c s w) z →
      (n : ℕ) × (c_mul (power (turn c s) (suc n)) z ≡ z)
  power_fixes w z d e = elim (cases_order (plus_count w) (minus_count w)) [
    | inl h ↦ absurd (d h)
    | inr (inl h) ↦ (minus_count w - suc (plus_count w), apart (minus_count w) (plus_count w) z h (sym (powers_agree w z e)))
    | inr (inr h) ↦ (plus_count w - suc (minus_count w), apart (plus_count w) (minus_count w) z h (powers_agree w z e))
  ]

  -- the power of c - s·i is the conjugate one, and leaves the same what the other does
  conjugate_power : (n : ℕ) → power (turn c (neg s)) n ≡ turn (power (turn c s) n).re (neg (power (turn c s) n).im)
  conjugate_power zero = complex_same refl (sym (num_mul-zero (whole (negsuc 0))))
  conjugate_power (suc n) =
      ap (c_mul (turn c (neg s))) (conjugate_power n)
      ∙ complex_same (law_re (power (turn c s) n).re (power (turn c s) n).im)
      (law_im (whole (negsuc 0)) c s (power (turn c s) n).re (power (turn c s) n).im)
    where
      law_re : (a b : Number) → add (mul c a) (neg (mul (neg s) (neg b))) ≡ add (mul c a) (neg (mul s b))
      law_re a b = ap (λ x. add (mul c a) (neg x)) (minus_minus (whole (negsuc 0)) s b ∙ num_neg-neg (mul s b))
        where
          minus_minus : (m s b : Number) → mul (mul m s) (mul m b) ≡ mul m (mul m (mul s b))
          minus_minus m s b = simp ring

      law_im : (m c s a b : Number) → add (mul c (mul m b)) (mul (mul m s) a) ≡ mul m (add (mul c b) (mul s a))
      law_im m c s a b = simp ring

  other_fixes : (n : ℕ) (z : Complex) → c_mul (power (turn c s) n) z ≡ z → c_mul (power (turn c (neg s)) n) z ≡ z
  other_fixes n z e =
      ap (c_mul (power (turn c (neg s)) n)) (sym e)
      ∙ sym (c_mul_assoc (power (turn c (neg s)) n) (power (turn c s) n) z) ∙ ap (λ x. c_mul x z) (back_power n)
      ∙ c_one-mul z

  -- so the real part of the power leaves both parts the same
  pub real_fixes : (n : ℕ) (z : Complex) → c_mul (power (turn c s) n) z ≡ z →
      (mul (power (turn c s) n).re z.re ≡ z.re) × (mul (power (turn c s) n).re z.im ≡ z.im)
  real_fixes n z e =
      let a : Number = (power (turn c s) n).re in
      let b : Number = (power (turn c s) n).im in
      let other : c_mul (turn a (neg b)) z ≡ z = ap (λ x. c_mul x z) (sym (conjugate_power n)) ∙ other_fixes n z e in (
        halve (mul a z.re) z.re (sym (sum_re a b z.re z.im) ∙ (λ i. add ((e i).re) ((other i).re))),
        halve (mul a z.im) z.im (sym (sum_im a b z.re z.im) ∙ (λ i. add ((e i).im) ((other i).im))),
      )
    where
      sum_re : (a b x y : Number) → add (add (mul a x) (neg (mul b y))) (add (mul a x) (neg (mul (neg b) y)))
          ≡ add (mul a x) (mul a x)
      sum_re a b x y = law (whole (negsuc 0)) a b x y ∙ ap (add (add (mul a x) (mul a x))) (num_add-neg (neg (mul b y))) ∙ num_add-zero _
        where
          law : (m a b x y : Number) → add (add (mul a x) (mul m (mul b y))) (add (mul a x) (mul m (mul (mul m b) y)))
              ≡ add (add (mul a x) (mul a x)) (add (mul m (mul b y)) (mul m (mul m (mul b y))))
          law m a b x y = simp ring

      sum_im : (a b x y : Number) → add (add (mul a y) (mul b x)) (add (mul a y) (mul (neg b) x)) ≡ add (mul a y) (mul a y)
      sum_im a b x y = law (whole (negsuc 0)) a b x y ∙ ap (add (add (mul a y) (mul a y))) (num_add-neg (mul b x)) ∙ num_add-zero _
        where
          law : (m a b x y : Number) → add (add (mul a y) (mul b x)) (add (mul a y) (mul (mul m b) x))
              ≡ add (add (mul a y) (mul a y)) (add (mul b x) (mul m (mul b x)))
          law m a b x y = simp ring

-- ---- the powers of (3 + 4i)/5
abbrev pub three_fifths : Number
three_fifths = fraction (pos 3) 5 (lit< tt)

abbrev pub four_fifths : Number
four_fifths = fraction (pos 4) 5 (lit< tt)

pub fifths_unit : add (mul three_fifths three_fifths) (mul four_fifths four_fifths) ≡ num_one
unfolding add mul fraction whole
fifths_unit = same_numbers _ _ (record { same_p = refl; same_q = refl })

whole-mul : (a b : ℤ) → mul (whole a) (whole b) ≡ whole (a *ℤ b)
unfolding mul whole
whole-mul a b = same_numbers _ _ (record { same_p = first a b; same_q = second a b })
  where
    first : (a b : ℤ) → ((a *ℤ b) +ℤ (pos 3 *ℤ (pos 0 *ℤ pos 0))) *ℤ pos 1 ≡ (a *ℤ b) *ℤ pos 1
    first a b = ap (λ x. x *ℤ pos 1) (+ℤ_idr (a *ℤ b))

    second : (a b : ℤ) → ((a *ℤ pos 0) +ℤ (pos 0 *ℤ b)) *ℤ pos 1 ≡ pos 0 *ℤ pos 1
    second a b = simp (ring_ℤ, mul-zero_ℤ)

five_three : mul (whole (pos 5)) three_fifths ≡ whole (pos 3)
unfolding mul whole fraction
five_three = same_numbers _ _ (record { same_p = refl; same_q = refl })

five_four : mul (whole (pos 5)) four_fifths ≡ whole (pos 4)
unfolding mul whole fraction
five_four = same_numbers _ _ (record { same_p = refl; same_q = refl })

abbrev fifths : Complex
fifths = turn three_fifths four_fifths

-- a multiple of 5 times the power has the parts 3 + 5k and 4 + 5l
record IsScaled (z : Complex) : Type 0 where
  f : ℤ
  k : ℤ
  l : ℤ
  re : mul (whole (pos 5 *ℤ f)) z.re ≡ whole (pos 3 +ℤ (pos 5 *ℤ k))
  im : mul (whole (pos 5 *ℤ f)) z.im ≡ whole (pos 4 +ℤ (pos 5 *ℤ l))

scaled-more : (z : Complex) → IsScaled z → IsScaled (c_mul fifths z)
scaled-more z h = record {
  f = pos 5 *ℤ h.f;
  k = negsuc 1 +ℤ ((pos 3 *ℤ h.k) +ℤ (negsuc 3 *ℤ h.l));
  l = pos 4 +ℤ ((pos 3 *ℤ h.l) +ℤ (pos 4 *ℤ h.k));
  re =
      spread_re (whole (negsuc 0)) (whole (pos 5)) (whole (pos 5 *ℤ h.f)) three_fifths four_fifths z.re z.im (sym (whole-mul (pos 5) (pos 5 *ℤ h.f)))
      ∙ (λ i. add (mul (five_three i) (h.re i)) (mul (whole (negsuc 0)) (mul (five_four i) (h.im i))))
      ∙ joined_re (pos 3 +ℤ (pos 5 *ℤ h.k)) (pos 4 +ℤ (pos 5 *ℤ h.l)) _ (at_re h.k h.l);
  im =
      spread_im (whole (pos 5)) (whole (pos 5 *ℤ h.f)) three_fifths four_fifths z.re z.im (sym (whole-mul (pos 5) (pos 5 *ℤ h.f)))
      ∙ (λ i. add (mul (five_three i) (h.im i)) (mul (five_four i) (h.re i)))
      ∙ joined_im (pos 3 +ℤ (pos 5 *ℤ h.k)) (pos 4 +ℤ (pos 5 *ℤ h.l)) _ (at_im h.k h.l);
}
  where
    spread_re : (m p q c s x y : Number) {r : Number} → r ≡ mul p q →
        mul r (add (mul c x) (mul m (mul s y))) ≡ add (mul (mul p c) (mul q x)) (mul m (mul (mul p s) (mul q y)))
    spread_re m p q c s x y e = ap (λ r. mul r (add (mul c x) (mul m (mul s y)))) e ∙ law m p q c s x y
      where
        law : (m p q c s x y : Number) → mul (mul p q) (add (mul c x) (mul m (mul s y)))
            ≡ add (mul (mul p c) (mul q x)) (mul m (mul (mul p s) (mul q y)))
        law m p q c s x y = simp ring

    spread_im : (p q c s x y : Number) {r : Number} → r ≡ mul p q →
        mul r (add (mul c y) (mul s x)) ≡ add (mul (mul p c) (mul q y)) (mul (mul p s) (mul q x))
    spread_im p q c s x y e = ap (λ r. mul r (add (mul c y) (mul s x))) e ∙ law p q c s x y
      where
        law : (p q c s x y : Number) → mul (mul p q) (add (mul c y) (mul s x))
            ≡ add (mul (mul p c) (mul q y)) (mul (mul p s) (mul q x))
        law p q c s x y = simp ring

    joined_re : (a b d : ℤ) → (pos 3 *ℤ a) +ℤ (negsuc 0 *ℤ (pos 4 *ℤ b)) ≡ d →
        add (mul (whole (pos 3)) (whole a)) (mul (whole (negsuc 0)) (mul (whole (pos 4)) (whole b))) ≡ whole d
    joined_re a b d e =
        (λ i. add (whole-mul (pos 3) a i) (mul (whole (negsuc 0)) (whole-mul (pos 4) b i)))
        ∙ ap (add (whole (pos 3 *ℤ a))) (whole-mul (negsuc 0) (pos 4 *ℤ b))
        ∙ whole-add (pos 3 *ℤ a) (negsuc 0 *ℤ (pos 4 *ℤ b)) ∙ ap whole e

    joined_im : (a b d : ℤ) → (pos 3 *ℤ b) +ℤ (pos 4 *ℤ a) ≡ d →
        add (mul (whole (pos 3)) (whole b)) (mul (whole (pos 4)) (whole a)) ≡ whole d
    joined_im a b d e =
        (λ i. add (whole-mul (pos 3) b i) (whole-mul (pos 4) a i)) ∙ whole-add (pos 3 *ℤ b) (pos 4 *ℤ a) ∙ ap whole e

    at_re : (k l : ℤ) → (pos 3 *ℤ (pos 3 +ℤ (pos 5 *ℤ k))) +ℤ (negsuc 0 *ℤ (pos 4 *ℤ (pos 4 +ℤ (pos 5 *ℤ l))))
        ≡ pos 3 +ℤ (pos 5 *ℤ (negsuc 1 +ℤ ((pos 3 *ℤ k) +ℤ (negsuc 3 *ℤ l))))
    at_re k l = omega (arith, ints)

    at_im : (k l : ℤ) → (pos 3 *ℤ (pos 4 +ℤ (pos 5 *ℤ l))) +ℤ (pos 4 *ℤ (pos 3 +ℤ (pos 5 *ℤ k)))
        ≡ pos 4 +ℤ (pos 5 *ℤ (pos 4 +ℤ ((pos 3 *ℤ l) +ℤ (pos 4 *ℤ k))))
    at_im k l = omega (arith, ints)

scaled : (n : ℕ) → IsScaled (power fifths (suc n))
scaled zero = record {
  f = pos 1;
  k = pos 0;
  l = pos 0;
  re = ap (λ z. mul (whole (pos 5)) z.re) (c_mul_comm fifths c_one ∙ c_one-mul fifths) ∙ five_three;
  im = ap (λ z. mul (whole (pos 5)) z.im) (c_mul_comm fifths c_one ∙ c_one-mul fifths) ∙ five_four;
}
scaled (suc n) = scaled-more (power fifths (suc n)) (scaled n)

-- a number that two whole numbers multiply to the same is 0, or the two are the same
same_or_zero : (a b : ℤ) (x : Number) → mul (whole a) x ≡ mul (whole b) x → a +ℤ (negsuc 0 *ℤ b) ≢ pos 0 → x ≡ num_zero
unfolding whole fraction
same_or_zero a b x e d =
    fraction-cancel (a +ℤ (negsuc 0 *ℤ b)) 1 (lit< tt) x d
    (ap (λ y. mul y x) (sym (ap (add (whole a)) (whole-mul (negsuc 0) b) ∙ whole-add a (negsuc 0 *ℤ b)))
    ∙ law (whole (negsuc 0)) (whole a) (whole b) x ∙ ap (λ y. add y (neg (mul (whole b) x))) e
    ∙ num_add-neg (mul (whole b) x))
  where
    law : (m p q x : Number) → mul (add p (mul m q)) x ≡ add (mul p x) (mul m (mul q x))
    law m p q x = simp ring

-- what a power of it other than the first leaves the same is 0
pub fixed_zero : (n : ℕ) (z : Complex) → c_mul (power fifths (suc n)) z ≡ z → z ≡ c_zero
fixed_zero n z e =
    let fixed = real_fixes three_fifths four_fifths fifths_unit (suc n) z e in
    complex_same (at z.re fixed.0) (at z.im fixed.1)
  where
    differ : (k f : ℤ) → (pos 3 +ℤ (pos 5 *ℤ k)) +ℤ (negsuc 0 *ℤ (pos 5 *ℤ f)) ≢ pos 0
    differ k f e = omega (arith, ints, e)

    at : (x : Number) → mul (power fifths (suc n)).re x ≡ x → x ≡ num_zero
    at x e =
        let h = scaled n in
        same_or_zero (pos 3 +ℤ (pos 5 *ℤ h.k)) (pos 5 *ℤ h.f) x
        (ap (λ y. mul y x) (sym h.re) ∙ num_mul_assoc (whole (pos 5 *ℤ h.f)) (power fifths (suc n)).re x
        ∙ ap (mul (whole (pos 5 *ℤ h.f))) e) (differ h.k h.f)

-- Fractions as numbers: when two are one number, sums, products and negatives by parts.
use Rattle.std.proofs.Common.{◌≡◌, ℕ, zero, suc, ◌*◌, ◌<◌, refl, ap, sym, ◌∙◌, arith, lit<}
use Rattle.number_laws.proofs.Fractions.{zero_times, over-whole}
use lib.IntN.{ℤ, pos, negsuc, ◌+ℤ◌, ◌*ℤ◌, *ℤ_comm, neg_ℤ, +ℤ_idr}
use native.Mathlib.Nat.{one-mul}
use Rattle.tensor_defs.specs.IntRing.{positive_mul, mul-zero_ℤ, mul-one_ℤ, neg-mul_ℤ, ring_ℤ}
use Rattle.tensor_defs.specs.Number.{number_of, same_numbers, add, mul, add_at, mul_at, neg, num_zero, whole, over, fraction}
use Rattle.number_laws.proofs.Sameness.{numbers_are_same_lem}

pub over-same : (p q : ℤ) (m n : ℕ) → 0 < m → 0 < n → p *ℤ pos n ≡ q *ℤ pos m → over p m ≡ over q n
unfolding over fraction
over-same p q zero n h k e = absurd (omega arith)
over-same p q (suc m) zero h k e = absurd (omega arith)
over-same p q (suc m) (suc n) h k e =
    same_numbers _ _ (record { same_p = e; same_q = zero_times (pos (suc n)) ∙ sym (zero_times (pos (suc m))) })

pub same_over : (p q : ℤ) (m n : ℕ) → 0 < m → 0 < n → over p m ≡ over q n → p *ℤ pos n ≡ q *ℤ pos m
unfolding over fraction
same_over p q zero n h k e = absurd (omega arith)
same_over p q (suc m) zero h k e = absurd (omega arith)
same_over p q (suc m) (suc n) h k e = let s = (numbers_are_same_lem _ _).0 e in s.same_p

-- a fraction is the number of its triple
pub over-at : (p : ℤ) (n : ℕ) (h : 0 < n) → over p n ≡ number_of (record { p = p; q = pos 0; n = n; positive = h })
unfolding over fraction
over-at p zero h = absurd (omega arith)
over-at p (suc n) h = same_numbers _ _ (record { same_p = refl; same_q = refl })

pub over-zero : (n : ℕ) → over (pos 0) n ≡ num_zero
unfolding over fraction whole
over-zero zero = refl
over-zero (suc k) =
    same_numbers _ _ (record {
      same_p = mul-one_ℤ (pos 0) ∙ sym (zero_times (pos (suc k)));
      same_q = mul-one_ℤ (pos 0) ∙ sym (zero_times (pos (suc k)));
    })

pub over-is_zero : (p : ℤ) (n : ℕ) → 0 < n → over p n ≡ num_zero → p ≡ pos 0
over-is_zero p n h e =
    sym (mul-one_ℤ p) ∙ same_over p (pos 0) n 1 h (lit< tt) (e ∙ sym (over-zero 1)) ∙ zero_times (pos n)

pub over-add : (p q : ℤ) (m n : ℕ) → 0 < m → 0 < n → add (over p m) (over q n) ≡ over ((p *ℤ pos n) +ℤ (q *ℤ pos m)) (m * n)
over-add p q m n h k =
    (λ i. add (over-at p m h i) (over-at q n k i)) ∙ add_at _ _
    ∙ same_numbers _ (record { p = (p *ℤ pos n) +ℤ (q *ℤ pos m); q = pos 0; n = m * n; positive = positive_mul h k }) (record {
      same_p = refl;
      same_q = ap (λ z. z *ℤ pos (m * n)) (λ i. zero_times (pos n) i +ℤ zero_times (pos m) i);
    })
    ∙ sym (over-at _ (m * n) (positive_mul h k))

pub over-mul : (p q : ℤ) (m n : ℕ) → 0 < m → 0 < n → mul (over p m) (over q n) ≡ over (p *ℤ q) (m * n)
over-mul p q m n h k =
    (λ i. mul (over-at p m h i) (over-at q n k i)) ∙ mul_at _ _
    ∙ same_numbers _ (record { p = p *ℤ q; q = pos 0; n = m * n; positive = positive_mul h k }) (record {
      same_p = ap (λ z. z *ℤ pos (m * n)) (+ℤ_idr (p *ℤ q));
      same_q = ap (λ z. z *ℤ pos (m * n)) ((λ i. mul-zero_ℤ p i +ℤ zero_times q i));
    })
    ∙ sym (over-at _ (m * n) (positive_mul h k))

neg_of : (z : ℤ) → negsuc 0 *ℤ z ≡ neg_ℤ z
neg_of z = neg-mul_ℤ (pos 1) z ∙ ap neg_ℤ (*ℤ_comm (pos 1) z ∙ mul-one_ℤ z)

pub over-neg : (p : ℤ) (n : ℕ) → 0 < n → neg (over p n) ≡ over (neg_ℤ p) n
over-neg p n h =
    ap (λ x. mul x (over p n)) (sym (over-whole (negsuc 0))) ∙ over-mul (negsuc 0) p 1 n (lit< tt) h
    ∙ (λ i. over (neg_of p i) (one-mul n i))

-- a factor of both parts
pub over-scale : (z : ℤ) (k g : ℕ) → 0 < k → 0 < g → over (z *ℤ pos g) (k * g) ≡ over z k
over-scale z k g h l = over-same (z *ℤ pos g) z (k * g) k (positive_mul h l) h (law z (pos k) (pos g))
  where
    law : (z k g : ℤ) → (z *ℤ g) *ℤ k ≡ z *ℤ (k *ℤ g)
    law z k g = simp ring_ℤ

-- a sum at one denominator
pub over-add_same : (p q : ℤ) (d : ℕ) → 0 < d → add (over p d) (over q d) ≡ over (p +ℤ q) d
over-add_same p q d h =
    over-add p q d d h h ∙ over-same _ _ (d * d) d (positive_mul h h) h (law p q (pos d))
  where
    law : (p q d : ℤ) → ((p *ℤ d) +ℤ (q *ℤ d)) *ℤ d ≡ (p +ℤ q) *ℤ (d *ℤ d)
    law p q d = simp ring_ℤ

-- a sum where the denominators have a common factor
pub over-add_common : (p q : ℤ) (l r g : ℕ) → 0 < l → 0 < r → 0 < g →
    add (over p (l * g)) (over q (r * g)) ≡ over ((p *ℤ pos r) +ℤ (q *ℤ pos l)) ((l * r) * g)
over-add_common p q l r g h k m =
    over-add p q (l * g) (r * g) (positive_mul h m) (positive_mul k m)
    ∙ over-same _ _ ((l * g) * (r * g)) ((l * r) * g) (positive_mul (positive_mul h m) (positive_mul k m))
    (positive_mul (positive_mul h k) m) (law p q (pos l) (pos r) (pos g))
  where
    law : (p q l r g : ℤ) → ((p *ℤ (r *ℤ g)) +ℤ (q *ℤ (l *ℤ g))) *ℤ ((l *ℤ r) *ℤ g)
        ≡ ((p *ℤ r) +ℤ (q *ℤ l)) *ℤ ((l *ℤ g) *ℤ (r *ℤ g))
    law p q l r g = simp ring_ℤ

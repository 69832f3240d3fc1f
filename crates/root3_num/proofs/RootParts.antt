-- Numbers a + b√3: they have one pair of fractions; sums and products by parts.
use Rattle.std.proofs.Common.{◌≡◌, ℕ, ◌*◌, ◌<◌, refl, ap, sym, ◌∙◌}
use Rattle.number_laws.proofs.Fractions.{zero_times}
use lib.IntN.{ℤ, pos, ◌+ℤ◌, ◌*ℤ◌, +ℤ_idr, +ℤ_comm}
use Rattle.tensor_defs.specs.Prelude.{positive_mul, mul-zero_ℤ, mul-cancel_ℤ, ring_ℤ, Number, Same, number_of, same_numbers, add, mul, add_at, mul_at}
use Rattle.tensor_defs.specs.Prelude.{num_zero, whole, half_of, root_3, over, value_of, HasParts}
use Rattle.number_laws.proofs.Sameness.{numbers_are_same_lem}
use Rattle.number_laws.proofs.NumberLaws.{ring, num_zero-mul, num_add-zero}
use Rattle.exact_frac.proofs.Overs.{over-at, over-same}

-- b√3
root-at : (q : ℤ) (n : ℕ) (h : 0 < n) → mul (over q n) root_3 ≡ number_of (record { p = pos 0; q = q; n = n; positive = h })
unfolding half_of
root-at q n h =
    ap (λ x. mul x root_3) (over-at q n h) ∙ mul_at _ _
    ∙ same_numbers _ (record { p = pos 0; q = q; n = n; positive = h }) (record {
      same_p = ap (λ z. z *ℤ pos n) (λ i. mul-zero_ℤ q i +ℤ (pos 3 *ℤ zero_times (pos 2) i)) ∙ zero_times (pos n)
          ∙ sym (zero_times (pos (n * 2)));
      same_q = ap (λ z. z *ℤ pos n) (ap (λ z. (q *ℤ pos 2) +ℤ z) (zero_times (pos 0)) ∙ +ℤ_idr (q *ℤ pos 2)) ∙ law q (pos n);
    })
  where
    law : (q n : ℤ) → (q *ℤ pos 2) *ℤ n ≡ q *ℤ (n *ℤ pos 2)
    law q n = simp ring_ℤ

-- a + b√3 is the number of one triple
pub both-at : (p q : ℤ) (m n : ℕ) (h : 0 < m) (k : 0 < n) → add (over p m) (mul (over q n) root_3)
    ≡ number_of (record { p = p *ℤ pos n; q = q *ℤ pos m; n = m * n; positive = positive_mul h k })
both-at p q m n h k =
    (λ i. add (over-at p m h i) (root-at q n k i)) ∙ add_at _ _
    ∙ same_numbers _ (record { p = p *ℤ pos n; q = q *ℤ pos m; n = m * n; positive = positive_mul h k }) (record {
      same_p = ap (λ z. z *ℤ pos (m * n)) (ap (λ z. (p *ℤ pos n) +ℤ z) (zero_times (pos m)) ∙ +ℤ_idr (p *ℤ pos n));
      same_q = ap (λ z. z *ℤ pos (m * n)) (ap (λ z. z +ℤ (q *ℤ pos m)) (zero_times (pos n)) ∙ zero_plus (q *ℤ pos m));
    })
  where
    zero_plus : (z : ℤ) → pos 0 +ℤ z ≡ z
    zero_plus z = +ℤ_comm (pos 0) z ∙ +ℤ_idr z

-- no two pairs of fractions make one number
pub both-same : (p q p' q' : ℤ) (m n m' n' : ℕ) → 0 < m → 0 < n → 0 < m' → 0 < n' →
    add (over p m) (mul (over q n) root_3) ≡ add (over p' m') (mul (over q' n') root_3) →
    (over p m ≡ over p' m') × (over q n ≡ over q' n')
both-same p q p' q' m n m' n' h k h' k' e =
    let s : Same (record { p = p *ℤ pos n; q = q *ℤ pos m; n = m * n; positive = positive_mul h k })
    (record { p = p' *ℤ pos n'; q = q' *ℤ pos m'; n = m' * n'; positive = positive_mul h' k' }) =
    (numbers_are_same_lem _ _).0 (sym (both-at p q m n h k) ∙ e ∙ both-at p' q' m' n' h' k') in (
      over-same p p' m m' h h' (mul-cancel_ℤ _ _ (n * n') (positive_mul k k')
          (first p (pos m') (pos n) (pos n') ∙ s.same_p ∙ sym (second p' (pos m) (pos n) (pos n')))),
      over-same q q' n n' k k' (mul-cancel_ℤ _ _ (m * m') (positive_mul h h')
          (third q (pos n') (pos m) (pos m') ∙ s.same_q ∙ sym (fourth q' (pos n) (pos m) (pos m')))),
    )
  where
    first : (p m' n n' : ℤ) → (p *ℤ m') *ℤ (n *ℤ n') ≡ (p *ℤ n) *ℤ (m' *ℤ n')
    first p m' n n' = simp ring_ℤ

    second : (p' m n n' : ℤ) → (p' *ℤ m) *ℤ (n *ℤ n') ≡ (p' *ℤ n') *ℤ (m *ℤ n)
    second p' m n n' = simp ring_ℤ

    third : (q n' m m' : ℤ) → (q *ℤ n') *ℤ (m *ℤ m') ≡ (q *ℤ m) *ℤ (m' *ℤ n')
    third q n' m m' = simp ring_ℤ

    fourth : (q' n m m' : ℤ) → (q' *ℤ n) *ℤ (m *ℤ m') ≡ (q' *ℤ m') *ℤ (m *ℤ n)
    fourth q' n m m' = simp ring_ℤ

pub one-parts : (x a b a' b' : Number) → HasParts x a b → HasParts x a' b' → (a ≡ a') × (b ≡ b')
one-parts x a b a' b' h k =
    let f = h.fraction_a in
    let g = h.fraction_b in
    let f' = k.fraction_a in
    let g' = k.fraction_b in
    let e : (value_of f ≡ value_of f') × (value_of g ≡ value_of g') =
    both-same f.num g.num f'.num g'.num f.den g.den f'.den g'.den h.is_a.terms.positive h.is_b.terms.positive
    k.is_a.terms.positive k.is_b.terms.positive
    ((λ i. add (sym h.is_a.same i) (mul (sym h.is_b.same i) root_3)) ∙ sym h.same ∙ k.same
    ∙ (λ i. add (k.is_a.same i) (mul (k.is_b.same i) root_3))) in
    (h.is_a.same ∙ e.0 ∙ sym k.is_a.same, h.is_b.same ∙ e.1 ∙ sym k.is_b.same)

-- 0 has the fractions 0 and 0
pub zero-parts : add num_zero (mul num_zero root_3) ≡ num_zero
zero-parts = ap (λ x. add num_zero x) (num_zero-mul root_3) ∙ num_add-zero num_zero

root-square : mul root_3 root_3 ≡ whole (pos 3)
unfolding mul whole half_of
root-square = same_numbers _ _ (record { same_p = refl; same_q = refl })

pub sum-parts : (a b c d r : Number) → add (add a (mul b r)) (add c (mul d r)) ≡ add (add a c) (mul (add b d) r)
sum-parts a b c d r = simp ring

pub neg-parts : (a b m r : Number) → mul m (add a (mul b r)) ≡ add (mul m a) (mul (mul m b) r)
neg-parts a b m r = simp ring

pub product-parts : (a b c d : Number) → mul (add a (mul b root_3)) (add c (mul d root_3))
    ≡ add (add (mul a c) (mul (whole (pos 3)) (mul b d))) (mul (add (mul a d) (mul b c)) root_3)
product-parts a b c d =
    law a b c d root_3 ∙ ap (λ t. add (add (mul a c) (mul t (mul b d))) (mul (add (mul a d) (mul b c)) root_3)) root-square
  where
    law : (a b c d r : Number) → mul (add a (mul b r)) (add c (mul d r))
        ≡ add (add (mul a c) (mul (mul r r) (mul b d))) (mul (add (mul a d) (mul b c)) r)
    law a b c d r = simp ring

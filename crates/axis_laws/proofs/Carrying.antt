-- Carried over to the unknowns, coefficients of components add up to the same.
--   carried_sum    carried over
use Rattle.std.proofs.Common.{◌≡◌, ◌≢◌, ℕ, zero, suc, ◌<◌, Bool, true, false, cond, List, [], length, get_or, refl, ap, sym, ◌∙◌, arith, inl, inr}
use Rattle.std.proofs.lemmas.Bool.{cases_eq, lt-ltb}
use Rattle.std.specs.Prelude.{Some, None}
use Rattle.list_laws.proofs.Prelude.{rising_apart, option_cases, held_place}
use Rattle.tensor_laws.proofs.Prelude.{same_own, same_told, sum_indices-add, sum_indices-mul, sum_indices-same, sum_indices-agree}
use Rattle.number_laws.proofs.NumberLaws.{num_add-zero, num_zero-add, num_zero-mul, num_mul-zero, num_mul_assoc, num_mul_comm}
use Rattle.sparse_rows.proofs.Lines.{dot-zero}
use Rattle.sparse_rows.specs.Solutions.{dot}
use Rattle.tensor_defs.specs.Prelude.{Line, Carrier, AreUnknowns, share, by_place, carried, Number, add, mul, num_zero, num_one, IsOrder, Index, Tensor}
use Rattle.tensor_defs.specs.Prelude.{same_index, sum_indices}

share-own : (d : Index) (s k : Number) → share (Some (d, s)) k d ≡ mul s k
share-own d s k = ap (λ b. cond b (mul s k) num_zero) (same_own d)

share-other : (d u : Index) (s k : Number) → d ≢ u → share (Some (d, s)) k u ≡ num_zero
share-other d u s k n = at (same_index d u) refl
  where
    at : (b : Bool) → same_index d u ≡ b → cond (same_index d u) (mul s k) num_zero ≡ num_zero
    at true e = absurd (n (same_told d u e))
    at false e = ap (λ b. cond b (mul s k) num_zero) e

-- ---- what a row adds up to
dot-agree : (n : ℕ) (ρ σ : Line) (t : ℕ → Number) → ((p : ℕ) → p < n → ρ p ≡ σ p) → dot n ρ t ≡ dot n σ t
dot-agree zero ρ σ t e = refl
dot-agree (suc n) ρ σ t e =
    λ i. add (mul (e n (omega arith) i) (t n)) (dot-agree n ρ σ t (λ p l. e p (omega (arith, l))) i)

dot-none : (n : ℕ) (ρ : Line) (t : ℕ → Number) → ((p : ℕ) → p < n → ρ p ≡ num_zero) → dot n ρ t ≡ num_zero
dot-none n ρ t e = dot-agree n ρ (λ p. num_zero) t e ∙ dot-zero n (λ p. num_zero) t (λ p. refl)

-- a row that is 0 but at one unknown
dot-only : (n q : ℕ) (ρ : Line) (t : ℕ → Number) → q < n → ((p : ℕ) → p < n → p ≢ q → ρ p ≡ num_zero) →
    dot n ρ t ≡ mul (ρ q) (t q)
dot-only zero q ρ t l e = absurd (omega (arith, l))
dot-only (suc n) q ρ t l e = elim (cases_eq n q) [
  | inl h ↦
      ap (add (mul (ρ n) (t n))) (dot-none n ρ t (λ p m. e p (omega (arith, m)) (λ s. omega (arith, m, s, h))))
      ∙ num_add-zero _ ∙ (λ i. mul (ρ (h i)) (t (h i)))
  | inr h ↦
      (λ i. add (mul (e n (omega arith) h i) (t n))
      (dot-only n q ρ t (omega (arith, l, h)) (λ p m. e p (omega (arith, m))) i))
      ∙ ap (λ x. add x (mul (ρ q) (t q))) (num_zero-mul (t n)) ∙ num_zero-add _
]

sum-mul : (r : ℕ) (f : Tensor) (x : Number) → mul (sum_indices r f) x ≡ sum_indices r (λ c. mul (f c) x)
sum-mul r f x =
    num_mul_comm (sum_indices r f) x ∙ sym (sum_indices-mul r x f)
    ∙ sum_indices-same r (λ c. mul x (f c)) (λ c. mul (f c) x) (λ c. num_mul_comm x (f c))

none_sum : (r : ℕ) → sum_indices r (λ c. num_zero) ≡ num_zero
none_sum r =
    sum_indices-same r (λ c. num_zero) (λ c. mul num_zero num_zero) (λ c. sym (num_zero-mul num_zero))
    ∙ sum_indices-mul r num_zero (λ c. num_zero) ∙ num_zero-mul _

-- a sum over components of what rows add up to
dot-sum : (n r : ℕ) (X : Index → Line) (t : ℕ → Number) →
    dot n (λ p. sum_indices r (λ c. X c p)) t ≡ sum_indices r (λ c. dot n (X c) t)
dot-sum zero r X t = sym (none_sum r)
dot-sum (suc n) r X t =
    (λ i. add (sum-mul r (λ c. X c n) (t n) i) (dot-sum n r X t i))
    ∙ sym (sum_indices-add r (λ c. mul (X c n) (t n)) (λ c. dot n (X c) t))

-- ---- the places of unknowns
by_place-within : (us : List Index) (f : Index → Number) (p : ℕ) → p < length us →
    by_place us f p ≡ f (get_or us p [])
by_place-within us f p l = ap (λ b. cond b (f (get_or us p [])) num_zero) (lt-ltb p (length us) l)

-- ---- carried over
module _ (r : ℕ) (before : Index → Index → Bool) (order : IsOrder r before) (rep : Carrier) (us : List Index)
    (known : AreUnknowns r before rep us)
    (own : (c d : Index) (s : Number) → length c ≡ r → rep c ≡ Some (d, s) → (length d ≡ r) × (rep d ≡ Some (d, num_one)))
    (t : Tensor) (none : (c : Index) → length c ≡ r → rep c ≡ None → t c ≡ num_zero)
    (some : (c d : Index) (s : Number) → length c ≡ r → rep c ≡ Some (d, s) → t c ≡ mul s (t d)) where
  -- the numbers of the unknowns
  abbrev at_unknowns : ℕ → Number
  at_unknowns p = t (get_or us p [])

  one_share : (k : Number) (c : Index) → length c ≡ r →
      dot (length us) (λ p. share (rep c) k (get_or us p [])) at_unknowns ≡ mul k (t c)
  one_share k c n = elim (option_cases (rep c)) [
    | inl e ↦
        dot-none (length us) (λ p. share (rep c) k (get_or us p [])) at_unknowns
        (λ p l. ap (λ o. share o k (get_or us p [])) e) ∙ sym (ap (mul k) (none c n e) ∙ num_mul-zero k)
    | inr v ↦
        let d : Index = v.0.0 in
        let s : Number = v.0.1 in
        let o = own c d s n v.1 in
        let q = held_place d [] us ((known.members d o.0).1 o.1) in
        dot-only (length us) q.0 (λ p. share (rep c) k (get_or us p [])) at_unknowns q.1
        (λ p l m. ap (λ o. share o k (get_or us p [])) v.1 ∙ share-other d (get_or us p []) s k
        (λ x. rising_apart before order.irreflexive us known.rising p q.0 [] l q.1 m (sym (q.2 ∙ x))))
        ∙ (λ i. mul (share (v.1 i) k (q.2 i)) (t (q.2 i)))
        ∙ ap (λ x. mul x (t d)) (share-own d s k ∙ num_mul_comm s k) ∙ num_mul_assoc k s (t d)
        ∙ ap (mul k) (sym (some c d s n v.1))
  ]

  pub carried_sum : (k : Index → Number) →
      dot (length us) (carried rep r us k) at_unknowns ≡ sum_indices r (λ c. mul (k c) (t c))
  carried_sum k =
      dot-agree (length us) (carried rep r us k) (λ p. sum_indices r (λ c. share (rep c) (k c) (get_or us p [])))
      at_unknowns (λ p l. by_place-within us (λ u. sum_indices r (λ c. share (rep c) (k c) u)) p l)
      ∙ dot-sum (length us) r (λ c p. share (rep c) (k c) (get_or us p [])) at_unknowns
      ∙ sum_indices-agree r (λ c. dot (length us) (λ p. share (rep c) (k c) (get_or us p [])) at_unknowns)
      (λ c. mul (k c) (t c)) (λ c n. one_share (k c) c n)

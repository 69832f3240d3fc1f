-- The values of a table, and what an operation makes of them, as sums over the free components.
--   sum_to          the sum over the numbers below a bound
--   value-by_factors    a table's value is the sum of its factors times the chosen numbers
--   act-by_rows     the value that an operation makes of it is the sum of the rows in the state times the chosen numbers
use Rattle.std.proofs.Common.{◌≡◌, ◌≢◌, ℕ, zero, suc, ◌<◌, inl, inr, false, cond, List, [], ◌∷◌, length, refl, ap, sym, ◌∙◌, arith}
use Rattle.std.specs.Prelude.{nat_eq, nat_lt, IsTrue}
use Rattle.std.proofs.lemmas.Bool.Decides.{nat_tests}
use Rattle.std.proofs.lemmas.Bool.{cases_lt, eq-eqb, ne_eqb}
use Rattle.tensor_defs.specs.Prelude.{Each, IsRising, Number, add, mul, num_zero, Operation, factor_at, state_row, sum_of, Table, Term, chosen, factor_of}
use Rattle.tensor_defs.specs.Prelude.{places_rise, sum_terms, value_at, Index, Marks, act, indices}
use Rattle.number_laws.proofs.NumberLaws.{num_add-zero, num_mul-zero, num_zero-add, num_zero-mul, num_mul-add, ring}
use Rattle.tensor_laws.proofs.Agreeing.{sum_indices-agree}
use Rattle.tensor_action.specs.Acting.{factor}
use Rattle.tensor_action.proofs.CarryLaws.{sum_is_act}
use Rattle.tensor_action.proofs.IndexPlaces.{sum_of-indices}
use Rattle.reduced_form.specs.Forms.{IsWellFormed}
use Rattle.state_marks.proofs.Factors.{same_or_other}

-- ---- sums over numbers below a bound
abbrev pub sum_to : ℕ → (ℕ → Number) → Number
sum_to zero f = num_zero
sum_to (suc n) f = add (sum_to n f) (f n)

pub sum_to-same : (n : ℕ) (f h : ℕ → Number) → ((k : ℕ) → k < n → f k ≡ h k) → sum_to n f ≡ sum_to n h
sum_to-same zero f h e = refl
sum_to-same (suc n) f h e =
    let rest = sum_to-same n f h (λ k l. e k (omega (arith, l))) in
    let last = e n (omega arith) in
    λ i. add (rest i) (last i)

sum_to-zero : (n : ℕ) (f : ℕ → Number) → ((k : ℕ) → k < n → f k ≡ num_zero) → sum_to n f ≡ num_zero
sum_to-zero zero f e = refl
sum_to-zero (suc n) f e =
    let rest = sum_to-zero n f (λ k l. e k (omega (arith, l))) in
    let last = e n (omega arith) in
    (λ i. add (rest i) (last i)) ∙ num_add-zero num_zero

crossed : (a b c d : Number) → add (add a b) (add c d) ≡ add (add a c) (add b d)
crossed a b c d = simp ring

sum_to-add : (n : ℕ) (f h : ℕ → Number) → sum_to n (λ k. add (f k) (h k)) ≡ add (sum_to n f) (sum_to n h)
sum_to-add zero f h = sym (num_add-zero num_zero)
sum_to-add (suc n) f h =
    ap (λ x. add x (add (f n) (h n))) (sum_to-add n f h) ∙ crossed (sum_to n f) (sum_to n h) (f n) (h n)

sum_to-mul : (n : ℕ) (c : Number) (f : ℕ → Number) → mul c (sum_to n f) ≡ sum_to n (λ k. mul c (f k))
sum_to-mul zero c f = num_mul-zero c
sum_to-mul (suc n) c f = num_mul-add c (sum_to n f) (f n) ∙ ap (λ x. add x (mul c (f n))) (sum_to-mul n c f)

-- y at p, 0 elsewhere
abbrev pub only : ℕ → Number → ℕ → Number
only p y k = cond (nat_eq p k) y num_zero

pub only-own : (p : ℕ) (y : Number) (k : ℕ) → p ≡ k → only p y k ≡ y
only-own p y k e = ap (λ b. cond b y num_zero) (eq-eqb p k e)

pub only-other : (p : ℕ) (y : Number) (k : ℕ) → p ≢ k → only p y k ≡ num_zero
only-other p y k e = ap (λ b. cond b y num_zero) (ne_eqb p k e)

pub sum_to-only : (n p : ℕ) (y : Number) → p < n → sum_to n (only p y) ≡ y
sum_to-only zero p y h = absurd (omega (arith, h))
sum_to-only (suc n) p y h = elim (cases_lt p n) as (λ _. sum_to (suc n) (only p y) ≡ y) [
  | inl l ↦
      (λ i. add (sum_to-only n p y l i) (only-other p y n (λ e. absurd (omega (arith, l, e))) i)) ∙ num_add-zero y
  | inr l ↦
      (let e : p ≡ n = omega (arith, l, h) in
      let none = sum_to-zero n (only p y) (λ k m. only-other p y k (λ s. absurd (omega (arith, l, m, s)))) in
      (λ i. add (none i) (only-own p y n e i)) ∙ num_zero-add y)
]

-- ---- a table's values
above : (t : Term) (ts : List Term) → Each (λ b. IsTrue (places_rise t b)) ts → factor_at ts t.place ≡ num_zero
above t [] e = refl
above t (s ∷ ts) e =
    ap (λ b. cond b (factor_of s) (factor_at ts t.place)) (later (e.0)) ∙ above t ts e.1
  where
    later : IsTrue (nat_lt t.place s.place) → nat_eq s.place t.place ≡ false
    later h = grind (arith, nat_tests)

-- one term, and those behind it
split : (u : ℕ → Number) (t : Term) (ts : List Term) → Each (λ b. IsTrue (places_rise t b)) ts → (k : ℕ) →
    mul (factor_at (t ∷ ts) k) (u k) ≡ add (only t.place (mul (factor_of t) (u t.place)) k) (mul (factor_at ts k) (u k))
split u t ts e k = elim (same_or_other t.place k) as
    (λ _. mul (factor_at (t ∷ ts) k) (u k) ≡ add (only t.place (mul (factor_of t) (u t.place)) k) (mul (factor_at ts k) (u k))) [
      | inl p ↦
          (let rest : mul (factor_at ts k) (u k) ≡ num_zero =
          ap (λ x. mul x (u k)) (ap (factor_at ts) (sym p) ∙ above t ts e) ∙ num_zero-mul (u k) in
          ap (λ b. mul (cond b (factor_of t) (factor_at ts k)) (u k)) (eq-eqb t.place k p)
          ∙ ap (λ x. mul (factor_of t) (u x)) (sym p)
          ∙ sym ((λ i. add (only-own t.place (mul (factor_of t) (u t.place)) k p i) (rest i)) ∙ num_add-zero _))
      | inr p ↦
          ap (λ b. mul (cond b (factor_of t) (factor_at ts k)) (u k)) (ne_eqb t.place k p)
          ∙ sym (ap (λ x. add x (mul (factor_at ts k) (u k))) (only-other t.place (mul (factor_of t) (u t.place)) k p) ∙ num_zero-add _)
    ]

terms-by_factors : (n : ℕ) (u : ℕ → Number) (ts : List Term) → IsRising places_rise ts → Each (λ t. t.place < n) ts →
    sum_terms ts u ≡ sum_to n (λ k. mul (factor_at ts k) (u k))
terms-by_factors n u [] r b = sym (sum_to-zero n (λ k. mul num_zero (u k)) (λ k h. num_zero-mul (u k)))
terms-by_factors n u (t ∷ ts) r b =
    (λ i. add (sym (sum_to-only n t.place (mul (factor_of t) (u t.place)) b.0) i) (terms-by_factors n u ts r.1 b.1 i))
    ∙ sym (sum_to-add n (only t.place (mul (factor_of t) (u t.place))) (λ k. mul (factor_at ts k) (u k)))
    ∙ sum_to-same n (λ k. add (only t.place (mul (factor_of t) (u t.place)) k) (mul (factor_at ts k) (u k)))
    (λ k. mul (factor_at (t ∷ ts) k) (u k)) (λ k h. sym (split u t ts r.0 k))

regrouped : (c h s u : Number) → add (mul c (mul h u)) (mul s u) ≡ mul (add (mul c h) s) u
regrouped c h s u = simp ring

-- sums of sums, the other way round
turned_round : (n : ℕ) (u : ℕ → Number) (f : Index → Number) (h : Index → ℕ → Number) (js : List Index) →
    sum_of (λ j. mul (f j) (sum_to n (λ k. mul (h j k) (u k)))) js
    ≡ sum_to n (λ k. mul (sum_of (λ j. mul (f j) (h j k)) js) (u k))
turned_round n u f h [] = sym (sum_to-zero n (λ k. mul num_zero (u k)) (λ k l. num_zero-mul (u k)))
turned_round n u f h (j ∷ js) =
    (λ i. add (sum_to-mul n (f j) (λ k. mul (h j k) (u k)) i) (turned_round n u f h js i))
    ∙ sym (sum_to-add n (λ k. mul (f j) (mul (h j k) (u k))) (λ k. mul (sum_of (λ j. mul (f j) (h j k)) js) (u k)))
    ∙ sum_to-same n _ _ (λ k l. regrouped (f j) (h j k) (sum_of (λ j. mul (f j) (h j k)) js) (u k))

module _ (m : Marks) (g : Operation) (r : ℕ) (a : Table) (formed : IsWellFormed r a) (v : List Number) where
  pub value-by_factors : (c : Index) → length c ≡ r →
      value_at a v c ≡ sum_to (length a.free) (λ k. mul (factor_at (a.terms c) k) (chosen v k))
  value-by_factors c l =
      terms-by_factors (length a.free) (chosen v) (a.terms c) (formed c l).0.0 (formed c l).1

  pub act-by_rows : (i : Index) → length i ≡ r →
      act m g (value_at a v) i ≡ sum_to (length a.free) (λ k. mul (state_row m g a r i k) (chosen v k))
  act-by_rows i l =
      let f = factor m g i in
      let sums : Index → Number = λ j. sum_to (length a.free) (λ k. mul (factor_at (a.terms j) k) (chosen v k)) in
      sym (sum_is_act m g (value_at a v) i)
      ∙ ap (λ n. sum_of (λ j. mul (f j) (value_at a v j)) (indices n)) l
      ∙ sum_of-indices r (λ j. mul (f j) (value_at a v j))
      ∙ sum_indices-agree r (λ j. mul (f j) (value_at a v j)) (λ j. mul (f j) (sums j))
      (λ j e. ap (mul (f j)) (value-by_factors j e))
      ∙ sym (sum_of-indices r (λ j. mul (f j) (sums j)))
      ∙ turned_round (length a.free) (chosen v) f (λ j k. factor_at (a.terms j) k) (indices r)

-- The factors of free components in a row of a form.
--   factor-other, factor-own    one more term: at other places and at its own
--   rising-before   in a rising row the terms before one have lesser places
--   factor-at       in a rising row each term has its factor
--   factor-first    the first term of a place has its factor
--   factor-told     no factor, or a term of the place
use Rattle.std.proofs.Common.{◌≡◌, ◌≢◌, ℕ, zero, suc, ◌<◌, ◌⊎◌, inl, inr, Bool, true, false, cond, List, [], ◌∷◌, ◌++◌, length, map, take, refl, ap, sym, ◌∙◌, arith}
use Rattle.std.specs.Prelude.{nat_eq, IsTrue}
use Rattle.std.proofs.lemmas.Bool.Decides.{nat_tests}
use Rattle.std.proofs.lemmas.Bool.{eq-eqb, ne_eqb}
use Rattle.tensor_defs.specs.Prelude.{Each, IsRising, num_zero, value_of, places_rise}
use Rattle.reduced_form.specs.declared.forms.Term.{Term}
use Rattle.reduced_form.specs.Forms.{term_of}
use Rattle.state_marks.specs.Sums.{factor_in, form_term_at}

decided : (a k : ℕ) (b : Bool) → nat_eq a k ≡ b → (a ≡ k) ⊎ (a ≢ k)
decided a k true e = inl (grind (arith, nat_tests))
decided a k false e = inr (λ s. let t : nat_eq a k ≡ true = eq-eqb a k s in let clash : true ≡ false = sym t ∙ e in cc)

pub same_or_other : (a k : ℕ) → (a ≡ k) ⊎ (a ≢ k)
same_or_other a k = decided a k (nat_eq a k) refl

module _ (k : ℕ) where
  factor-head : (t : Term) (ts : List Term) → t.free ≡ k → factor_in (t ∷ ts) k ≡ value_of t.factor
  factor-head t ts e = ap (λ b. cond b (value_of t.factor) (factor_in ts k)) (eq-eqb t.free k e)

  factor-tail : (t : Term) (ts : List Term) → t.free ≢ k → factor_in (t ∷ ts) k ≡ factor_in ts k
  factor-tail t ts e = ap (λ b. cond b (value_of t.factor) (factor_in ts k)) (ne_eqb t.free k e)

  pub factor-other : (ts : List Term) (t : Term) → t.free ≢ k → factor_in (ts ++ t ∷ []) k ≡ factor_in ts k
  factor-other [] t e = factor-tail t [] e
  factor-other (s ∷ ts) t e = ap (λ x. cond (nat_eq s.free k) (value_of s.factor) x) (factor-other ts t e)

  pub factor-absent : (ts : List Term) → Each (λ t. t.free < k) ts → factor_in ts k ≡ num_zero
  factor-absent [] e = refl
  factor-absent (t ∷ ts) e = let l = e.0 in factor-tail t ts (λ s. absurd (omega (arith, l, s))) ∙ factor-absent ts e.1

  pub factor-own : (ts : List Term) (t : Term) → t.free ≡ k → Each (λ s. s.free < k) ts →
      factor_in (ts ++ t ∷ []) k ≡ value_of t.factor
  factor-own [] t e b = factor-head t [] e
  factor-own (s ∷ ts) t e b =
      let l = b.0 in factor-tail s (ts ++ t ∷ []) (λ x. absurd (omega (arith, l, x))) ∙ factor-own ts t e b.1

  pub factor-first : (ts : List Term) (n : ℕ) → n < length ts → ((q : ℕ) → q < n → (form_term_at ts q).free ≢ k) →
      (form_term_at ts n).free ≡ k → factor_in ts k ≡ value_of (form_term_at ts n).factor
  factor-first [] n h o e = absurd (omega arith)
  factor-first (t ∷ ts) zero h o e = factor-head t ts e
  factor-first (t ∷ ts) (suc n) h o e =
      factor-tail t ts (o 0 (omega arith)) ∙ factor-first ts n (omega arith) (λ q l. o (suc q) (omega arith)) e

  pub factor-none : (ts : List Term) → ((q : ℕ) → q < length ts → (form_term_at ts q).free ≢ k) → factor_in ts k ≡ num_zero
  factor-none [] o = refl
  factor-none (t ∷ ts) o = factor-tail t ts (o 0 (omega arith)) ∙ factor-none ts (λ q l. o (suc q) (omega arith))

  pub factor-told : (ts : List Term) → (factor_in ts k ≡ num_zero) ⊎ ((q : ℕ) × (q < length ts) × ((form_term_at ts q).free ≡ k))
  factor-told [] = inl refl
  factor-told (t ∷ ts) = elim (same_or_other t.free k) [
    | inl e ↦ inr (0, omega arith, e)
    | inr e ↦ elim (factor-told ts) [
      | inl z ↦ inl (factor-tail t ts e ∙ z)
      | inr q ↦ inr (suc q.0, (let l = q.1 in omega (arith, l)), q.2)
    ]
  ]

-- ---- rising rows
below : (s t : Term) → IsTrue (places_rise (term_of s) (term_of t)) → s.free < t.free
below s t h = grind (arith, nat_tests)

all_above : (s : Term) (ts : List Term) → Each (λ t. IsTrue (places_rise (term_of s) t)) (map term_of ts) → (n : ℕ) →
    n < length ts → s.free < (form_term_at ts n).free
all_above s [] e n h = absurd (omega arith)
all_above s (t ∷ ts) e zero h = below s t e.0
all_above s (t ∷ ts) e (suc n) h = all_above s ts e.1 n (omega arith)

pub rising-before : (ts : List Term) → IsRising places_rise (map term_of ts) → (n : ℕ) → n < length ts →
    Each (λ s. s.free < (form_term_at ts n).free) (take n ts)
rising-before [] r n h = absurd (omega arith)
rising-before (t ∷ ts) r zero h = tt
rising-before (t ∷ ts) r (suc n) h = (all_above t ts r.0 n (omega arith), rising-before ts r.1 n (omega arith))

pub factor-at : (ts : List Term) → IsRising places_rise (map term_of ts) → (n : ℕ) → n < length ts →
    factor_in ts (form_term_at ts n).free ≡ value_of (form_term_at ts n).factor
factor-at [] r n h = absurd (omega arith)
factor-at (t ∷ ts) r zero h = factor-head t.free t ts refl
factor-at (t ∷ ts) r (suc n) h =
    let l = all_above t ts r.0 n (omega arith) in
    factor-tail (form_term_at ts n).free t ts (λ e. absurd (omega (arith, l, e))) ∙ factor-at ts r.1 n (omega arith)

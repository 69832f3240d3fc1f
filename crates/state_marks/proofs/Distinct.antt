-- A component distinguishes a state exactly where its row there is another than in the table.
use Rattle.list_laws.proofs.Kit.{◌≡◌, ℕ, zero, suc, ◌<◌, inl, inr, Bool, true, false, List, [], ◌∷◌, ◌++◌, length, refl, ap, sym, ◌∙◌, arith, cases_lt}
use Rattle.list_laws.proofs.Kit.{get_or_push, length_push, get_or-append}
use Rattle.std.specs.Prelude.{IsTrue, ◌↔◌}
use Rattle.tensor_defs.specs.Prelude.{JahnSymbol, rank, Number, mul, num_zero, num_one, Operation, Distinguishes, factor_at, state_row, Fits, Table, chosen}
use Rattle.tensor_defs.specs.Prelude.{value_at, Index, act}
use Rattle.number_laws.proofs.NumberLaws.{num_mul-one, num_mul-zero}
use Rattle.tensor_laws.proofs.Agreeing.{act-agree}
use Rattle.state_marks.specs.Told.{TellsRow}
use Rattle.state_marks.proofs.Factors.{same_or_other}
use Rattle.state_marks.proofs.Linear.{act-by_rows, only, only-other, only-own, sum_to, sum_to-only, sum_to-same, value-by_factors}

-- ---- 1 for one free component, 0 for the others
abbrev listed : (ℕ → Number) → ℕ → List Number
listed f zero = []
listed f (suc n) = listed f n ++ f n ∷ []

length-listed : (f : ℕ → Number) (n : ℕ) → length (listed f n) ≡ n
length-listed f zero = refl
length-listed f (suc n) = let e = length_push (listed f n) (f n) in let d = length-listed f n in omega (arith, e, d)

listed-at : (f : ℕ → Number) (n k : ℕ) → k < n → chosen (listed f n) k ≡ f k
listed-at f zero k h = absurd (omega (arith, h))
listed-at f (suc n) k h =
    let l : length (listed f n) ≡ n = length-listed f n in
    elim (cases_lt k n) as (λ _. chosen (listed f n ++ f n ∷ []) k ≡ f k) [
      | inl m ↦ get_or-append (listed f n) (f n ∷ []) num_zero k (omega (arith, m, l)) ∙ listed-at f n k m
      | inr m ↦
          (let e : n ≡ k = omega (arith, m, h) in
          get_or_push (listed f n) (f n) num_zero k (l ∙ e) ∙ ap f e)
    ]

picked : (n p : ℕ) (x : ℕ → Number) → p < n →
    sum_to n (λ k. mul (x k) (chosen (listed (only p num_one) n) k)) ≡ x p
picked n p x h =
    sum_to-same n (λ k. mul (x k) (chosen (listed (only p num_one) n) k)) (only p (x p)) at ∙ sum_to-only n p (x p) h
  where
    at : (k : ℕ) → k < n → mul (x k) (chosen (listed (only p num_one) n) k) ≡ only p (x p) k
    at k l = ap (mul (x k)) (listed-at (only p num_one) n k l) ∙ (elim (same_or_other p k) as
        (λ _. mul (x k) (only p num_one k) ≡ only p (x p) k) [
          | inl e ↦
              ap (mul (x k)) (only-own p num_one k e) ∙ num_mul-one (x k) ∙ ap x (sym e) ∙ sym (only-own p (x p) k e)
          | inr e ↦ ap (mul (x k)) (only-other p num_one k e) ∙ num_mul-zero (x k) ∙ sym (only-other p (x p) k e)
        ])

-- ---- marks
module _ (j : JahnSymbol) (F : Operation → Type 0) (before : Index → Index → Bool) (a : Table) (fits : Fits j F before a)
    (g : Operation) (i : Index) (l : length i ≡ rank j) where
  row_distinguishes : TellsRow j.marks g a (rank j) i true → Distinguishes j F g i
  row_distinguishes d =
      let n = length a.free in
      let v : List Number = listed (only d.0 num_one) n in
      let acts : act j.marks g (value_at a v) i ≡ state_row j.marks g a (rank j) i d.0 =
      act-by_rows j.marks g (rank j) a fits.well_formed v i l ∙ picked n d.0 (state_row j.marks g a (rank j) i) d.1 in
      let was : value_at a v i ≡ factor_at (a.terms i) d.0 =
      value-by_factors j.marks g (rank j) a fits.well_formed v i l ∙ picked n d.0 (factor_at (a.terms i)) d.1 in
      (value_at a v, fits.gives v (length-listed (only d.0 num_one) n), λ e. d.2 (sym acts ∙ e ∙ was))

  row_stays : TellsRow j.marks g a (rank j) i false → Distinguishes j F g i → ⊥
  row_stays same d =
      let t = d.0 in
      let r = fits.reaches t d.1 in
      let n = length a.free in
      let acts : act j.marks g t i ≡ act j.marks g (value_at a r.0) i =
      sym (act-agree j.marks g (rank j) (value_at a r.0) t r.2 i l) in
      d.2 (acts ∙ act-by_rows j.marks g (rank j) a fits.well_formed r.0 i l
      ∙ sum_to-same n (λ k. mul (state_row j.marks g a (rank j) i k) (chosen r.0 k))
      (λ k. mul (factor_at (a.terms i) k) (chosen r.0 k)) (λ k h. ap (λ x. mul x (chosen r.0 k)) (same k h))
      ∙ sym (value-by_factors j.marks g (rank j) a fits.well_formed r.0 i l) ∙ r.2 i l)

  pub row_tells : (marked : Bool) → TellsRow j.marks g a (rank j) i marked → IsTrue marked ↔ Distinguishes j F g i
  row_tells true told = (λ _. row_distinguishes told, λ _. refl)
  row_tells false told = ((λ e. absurd (let clash : false ≡ true = e in cc)), (λ d. absurd (row_stays told d)))

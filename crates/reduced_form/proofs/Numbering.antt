-- The unknowns that no kept row tells, and their numbers.
--   map_more    a list with one more
--   pivots_next, pivot_read, entries_read, length-kepts    pivots
--   places_free, places_told, number_rises, number_less, number_few, place_numbered, IsFreePlace
--       free unknowns and their numbers
use Rattle.list_laws.proofs.Kit.{◌≡◌, ℕ, zero, suc, ◌+◌, ◌<◌, ◌≤◌, ◌≢◌, List, [], ◌∷◌, ◌++◌, length, get_or, map, take, refl, ap, sym, ◌∙◌, subst, arith, inl}
use Rattle.list_laws.proofs.Kit.{inr, add-one, cases_lt, cases_eq, length-set, get_or-set_other, get_or_push, get_or_append_left, get_or-set_at}
use Rattle.std.proofs.Common.{set, length-append}
use Rattle.std.specs.Prelude.{Option, Some, None, slice_set}
use Rattle.list_laws.proofs.Lists.{option_cases}
use Rattle.tensor_defs.specs.Elimination.{Kept}
use Rattle.sparse_rows.specs.KeptRows.{kepts}
use Rattle.sparse_rows.specs.declared.entry.KeptRow.{KeptRow}
use Rattle.sparse_rows.specs.declared.entry.PivotSum.{PivotSum}
use Rattle.reduced_form.specs.Eliminated.{ArePivots, entries_at, free_places, number_at, pivot_at, teller, with_place}

pub some_not_none : {X : Type 0} (x : X) → Some x ≡ None → ⊥
some_not_none x e = cc

-- ---- a list with one more
pub map_more : {X Y : Type 0} (f : X → Y) (xs : List X) (i : ℕ) (x : X) → i < length xs → x ≡ get_or xs i x → map f (take (i + 1) xs) ≡ map f (take i xs) ++ f x ∷ []
map_more f xs i x h e = ap (λ n. map f (take n xs)) (add-one i) ∙ go f xs i x h e
  where
    go : {X Y : Type 0} (f : X → Y) (xs : List X) (i : ℕ) (x : X) → i < length xs → x ≡ get_or xs i x → map f (take (suc i) xs) ≡ map f (take i xs) ++ f x ∷ []
    go f [] i x h e = absurd (omega (arith, h))
    go f (y ∷ xs) zero x h e = ap (λ z. f z ∷ []) (sym e)
    go f (y ∷ xs) (suc i) x h e = ap (λ l. f y ∷ l) (go f xs i x (omega (arith, h)) e)

-- ---- pivots
pub pivots_next : (n : ℕ) (κs : List Kept) (at : List (Option ℕ)) (end p : ℕ) → ArePivots n κs at end → p ≡ pivot_at κs end → p < n → ArePivots n κs (slice_set at p (Some end)) (end + 1)
pivots_next n κs at end p h own inside = record {
  len = length-set at p (Some end) ∙ h.len;
  pivot = λ k i e. elim (cases_eq k p) [
    | inl q ↦
        let same : Some i ≡ Some end = sym e ∙ here k q in
        let is : i ≡ end = cc in
        (omega (arith, is), ap (pivot_at κs) is ∙ sym own ∙ sym q)
    | inr q ↦
        let old = h.pivot k i (sym (there k q) ∙ e) in
        let l = old.0 in
        (omega (arith, l), old.1)
  ];
  all = λ i l. elim (cases_eq (pivot_at κs i) p) [
    | inl q ↦ (end, here (pivot_at κs i) q)
    | inr q ↦
        let low : i < end = elim (cases_lt i end) as (λ _. i < end) [
          | inl m ↦ m
          | inr m ↦ let same : i ≡ end = omega (arith, l, m) in absurd (q (ap (pivot_at κs) same ∙ sym own))
        ] in
        let old = h.all i low in
        (old.0, there (pivot_at κs i) q ∙ old.1)
  ];
}
  where
    within : p < length at
    within = subst (λ (m : ℕ). p < m) (sym h.len) inside

    here : (k : ℕ) → k ≡ p → teller (set at p (Some end)) k ≡ Some end
    here k q = get_or-set_at at p k (Some end) None q within

    there : (k : ℕ) → k ≢ p → teller (set at p (Some end)) k ≡ teller at k
    there k q = get_or-set_other at p k (Some end) None (λ e. q e)

pub pivot_read : (ks : List KeptRow) (i : ℕ) (k : KeptRow) → i < length ks → k ≡ get_or ks i k → pivot_at (kepts ks) i ≡ k.pivot
pivot_read [] i k h e = absurd (omega (arith, h))
pivot_read (x ∷ ks) zero k h e = ap (λ z. z.pivot) (sym e)
pivot_read (x ∷ ks) (suc i) k h e = pivot_read ks i k (omega (arith, h)) e

pub entries_read : (ss : List PivotSum) (i : ℕ) (s : PivotSum) → i < length ss → s ≡ get_or ss i s → entries_at ss i ≡ s.terms.items
entries_read [] i s h e = absurd (omega (arith, h))
entries_read (x ∷ ss) zero s h e = ap (λ z. z.terms.items) (sym e)
entries_read (x ∷ ss) (suc i) s h e = entries_read ss i s (omega (arith, h)) e

pub length-kepts : (ks : List KeptRow) → length (kepts ks) ≡ length ks
length-kepts [] = refl
length-kepts (k ∷ ks) = ap suc (length-kepts ks)

-- ---- free unknowns and their numbers
module _ (at : List (Option ℕ)) where
  pub places_free : (k : ℕ) → teller at k ≡ None → free_places at (suc k) ≡ free_places at k ++ k ∷ []
  places_free k e = ap (λ o. with_place o k (free_places at k)) e

  pub places_told : (k i : ℕ) → teller at k ≡ Some i → free_places at (suc k) ≡ free_places at k
  places_told k i e = ap (λ o. with_place o k (free_places at k)) e

  number_free : (k : ℕ) → teller at k ≡ None → number_at at (suc k) ≡ number_at at k + 1
  number_free k e = ap (λ l. length l) (places_free k e) ∙ length-append (free_places at k) (k ∷ [])

  number_step : (k : ℕ) → number_at at k ≤ number_at at (suc k)
  number_step k = elim (option_cases (teller at k)) [
    | inl e ↦ let s = number_free k e in omega (arith, s)
    | inr e ↦ let s = ap (λ l. length l) (places_told k e.0 e.1) in omega (arith, s)
  ]

  pub number_rises : (k m : ℕ) → k ≤ m → number_at at k ≤ number_at at m
  number_rises k zero h = let e : k ≡ 0 = omega (arith, h) in subst (λ x. number_at at x ≤ number_at at 0) (sym e) (omega arith)
  number_rises k (suc m) h = elim (cases_eq k (suc m)) [
    | inl e ↦ subst (λ x. number_at at x ≤ number_at at (suc m)) (sym e) (omega arith)
    | inr e ↦
        let a = number_rises k m (omega (arith, h, e)) in
        let b = number_step m in
        omega (arith, a, b)
  ]

  pub number_less : (k m : ℕ) → k < m → teller at k ≡ None → number_at at k < number_at at m
  number_less k m h e =
      let a = number_rises (suc k) m (omega (arith, h)) in
      let b = number_free k e in
      omega (arith, a, b)

  pub number_few : (k : ℕ) → number_at at k ≤ k
  number_few zero = omega arith
  number_few (suc k) =
      let h = number_few k in
      elim (option_cases (teller at k)) [
        | inl e ↦ let s = number_free k e in omega (arith, s, h)
        | inr e ↦ let s = ap (λ l. length l) (places_told k e.0 e.1) in omega (arith, s, h)
      ]

  pub place_numbered : (n k : ℕ) → k < n → teller at k ≡ None → get_or (free_places at n) (number_at at k) 0 ≡ k
  place_numbered zero k h e = absurd (omega (arith, h))
  place_numbered (suc n) k h e = elim (cases_eq k n) [
    | inl q ↦
        ap (λ l. get_or l (number_at at k) 0) (places_free n (ap (teller at) (sym q) ∙ e))
        ∙ ap (λ x. get_or (free_places at n ++ n ∷ []) (number_at at x) 0) q ∙ get_or_push (free_places at n) n 0 (length (free_places at n)) refl ∙ sym q
    | inr q ↦
        let low : k < n = omega (arith, h, q) in
        elim (option_cases (teller at n)) [
          | inl z ↦
              ap (λ l. get_or l (number_at at k) 0) (places_free n z)
              ∙ get_or_append_left (free_places at n) (n ∷ []) 0 (number_at at k) (number_less k n low e) ∙ place_numbered n k low e
          | inr z ↦ ap (λ l. get_or l (number_at at k) 0) (places_told n z.0 z.1) ∙ place_numbered n k low e
        ]
  ]

  pub record IsFreePlace (n i : ℕ) : Type 0 where
    pub place : ℕ
    pub is : get_or (free_places at n) i 0 ≡ place
    pub below : place < n
    pub untold : teller at place ≡ None
    pub number : number_at at place ≡ i

  pub free_place : (n i : ℕ) → i < length (free_places at n) → IsFreePlace n i
  free_place zero i h = absurd (omega (arith, h))
  free_place (suc n) i h = elim (option_cases (teller at n)) [
    | inr z ↦
        let p = free_place n i (subst (λ l. i < length l) (places_told n z.0 z.1) h) in
        let b = p.below in
        record {
          place = p.place;
          is = ap (λ l. get_or l i 0) (places_told n z.0 z.1) ∙ p.is;
          below = omega (arith, b);
          untold = p.untold;
          number = p.number;
        }
    | inl z ↦
        let long = number_free n z in
        elim (cases_lt i (length (free_places at n))) [
          | inl l ↦
              let p = free_place n i l in
              let b = p.below in
              record {
                place = p.place;
                is = ap (λ xs. get_or xs i 0) (places_free n z) ∙ get_or_append_left (free_places at n) (n ∷ []) 0 i l ∙ p.is;
                below = omega (arith, b);
                untold = p.untold;
                number = p.number;
              }
          | inr l ↦
              let same : i ≡ number_at at n = omega (arith, l, h, long) in
              record {
                place = n;
                is = ap (λ xs. get_or xs i 0) (places_free n z) ∙ ap (λ j. get_or (free_places at n ++ n ∷ []) j 0) same ∙ get_or_push (free_places at n) n 0 (length (free_places at n)) refl;
                below = omega arith;
                untold = z;
                number = sym same;
              }
        ]
  ]

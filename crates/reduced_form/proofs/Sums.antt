-- The sums of kept rows, by their places, and the values of terms.
--   pivots_apart, is_pivot_at, pivot_within    pivots
--   IsSumAt, sum_at, length-sums, sums_solved, solved_sums, sums_agree    sums
--   entries_value, told_value, entry_proper, told_ranges    values of terms
use Rattle.std.proofs.Common.{◌≡◌, ℕ, zero, suc, ◌<◌, true, false, List, [], ◌∷◌, length, get_or, map, refl, ap, sym, ◌∙◌, subst, arith, inl, inr}
use Rattle.std.specs.Prelude.{Option, Some, None}
use Rattle.std.proofs.lemmas.Bool.{cases_eq}
use Rattle.sign_moves.proofs.SignLaws.{signed_zero}
use Rattle.list_laws.proofs.Members.{each_map}
use Rattle.number_laws.proofs.Sameness.{one_not_zero}
use lib.IntN.{negsuc}
use Rattle.exact_frac.proofs.Overs.{over-neg}
use Rattle.exact_frac.proofs.Parts.{neg-held, numerator}
use Rattle.number_laws.proofs.NumberLaws.{num_mul-add, num_mul_assoc}
use Rattle.tensor_defs.specs.declared.Sign.{Sign}
use Rattle.tensor_defs.specs.declared.Sign.TheVariants.{Plus, Minus}
use Rattle.tensor_defs.specs.Prelude.{Kept, Each, Number, add, mul, neg, value_of, whole, IsProper, sum_terms}
use Rattle.sign_moves.specs.Signs.{signed}
use Rattle.sparse_rows.specs.Prelude.{is_pivot, IsEntry, IsRow, AllApart, AreApart, IsKeptWithin, IsLeading, Solve, lines_of, AreSolved, sum_entries}
use Rattle.sparse_rows.specs.declared.entry.Entry.{Entry as SparseEntry}
use Rattle.sparse_rows.specs.declared.entry.PivotSum.{PivotSum}
use Rattle.sparse_rows.proofs.Merging.{neg-not_zero}
use Rattle.sparse_rows.proofs.Pivots.{pivot-other, pivot-own}
use Rattle.reduced_form.specs.Prelude.{term_of, AreNumbers, ArePivots, AreTold, entries_at, entry_term, pivot_at, signed_fraction, told_by}
use Rattle.reduced_form.proofs.FormLaws.{unit_value}

-- ---- pivots
pivot_clash : (κ : Kept) (κs : List Kept) → IsLeading κ → Each (AreApart κ) κs → (j : ℕ) → j < length κs → κ.pivot ≡ pivot_at κs j → ⊥
pivot_clash κ [] l a j h e = omega (arith, h)
pivot_clash κ (x ∷ xs) l a zero h e = one_not_zero (sym l.own ∙ ap κ.line e ∙ a.0.first)
pivot_clash κ (x ∷ xs) l a (suc j) h e = pivot_clash κ xs l a.1 j (omega (arith, h)) e

pub pivots_apart : (κs : List Kept) → Each IsLeading κs → AllApart κs → (i j : ℕ) → i < length κs → j < length κs → pivot_at κs i ≡ pivot_at κs j → i ≡ j
pivots_apart [] l a i j h k e = absurd (omega (arith, h))
pivots_apart (κ ∷ κs) l a zero zero h k e = refl
pivots_apart (κ ∷ κs) l a zero (suc j) h k e = absurd (pivot_clash κ κs l.0 a.0 j (omega (arith, k)) e)
pivots_apart (κ ∷ κs) l a (suc i) zero h k e = absurd (pivot_clash κ κs l.0 a.0 i (omega (arith, h)) (sym e))
pivots_apart (κ ∷ κs) l a (suc i) (suc j) h k e = ap suc (pivots_apart κs l.1 a.1 i j (omega (arith, h)) (omega (arith, k)) e)

pub is_pivot_at : (κs : List Kept) (i : ℕ) → i < length κs → is_pivot κs (pivot_at κs i) ≡ true
is_pivot_at [] i h = absurd (omega (arith, h))
is_pivot_at (κ ∷ κs) zero h = pivot-own κ κs κ.pivot refl
is_pivot_at (κ ∷ κs) (suc i) h = elim (cases_eq (pivot_at κs i) κ.pivot) [
  | inl e ↦ pivot-own κ κs (pivot_at κs i) e
  | inr e ↦ pivot-other κ κs (pivot_at κs i) e ∙ is_pivot_at κs i (omega (arith, h))
]

pub pivot_within : (n : ℕ) (κs : List Kept) → Each (IsKeptWithin n) κs → (i : ℕ) → i < length κs → pivot_at κs i < n
pivot_within n [] w i h = absurd (omega (arith, h))
pivot_within n (κ ∷ κs) w zero h = w.0.place
pivot_within n (κ ∷ κs) w (suc i) h = pivot_within n κs w.1 i (omega (arith, h))

-- ---- sums
pub record IsSumAt (all : List Kept) (p : ℕ) (es : List SparseEntry) : Type 0 where
  pub row : IsRow es
  pub before : Each (λ e. e.unknown < p) es
  pub free : Each (λ e. is_pivot all e.unknown ≡ false) es

pub sum_at : (all κs : List Kept) (ss : List PivotSum) → AreSolved all κs ss → (i : ℕ) → i < length κs → IsSumAt all (pivot_at κs i) (entries_at ss i)
sum_at all [] ss s i h = absurd (omega (arith, h))
sum_at all (κ ∷ κs) [] s i h = absurd s
sum_at all (κ ∷ κs) (x ∷ ss) s zero h = record { row = s.0.sum.is_row; before = s.0.sum.before; free = s.0.free }
sum_at all (κ ∷ κs) (x ∷ ss) s (suc i) h = sum_at all κs ss s.1 i (omega (arith, h))

pub length-sums : (all κs : List Kept) (ss : List PivotSum) → AreSolved all κs ss → length ss ≡ length κs
length-sums all [] [] s = refl
length-sums all [] (x ∷ ss) s = absurd s
length-sums all (κ ∷ κs) [] s = absurd s
length-sums all (κ ∷ κs) (x ∷ ss) s = ap suc (length-sums all κs ss s.1)

pub sums_solved : (n : ℕ) (all κs : List Kept) (ss : List PivotSum) (t : ℕ → Number) → AreSolved all κs ss → Each (IsKeptWithin n) κs →
    ((i : ℕ) → i < length κs → t (pivot_at κs i) ≡ sum_entries (entries_at ss i) t) → Solve n t (lines_of κs)
sums_solved n all [] ss t s w e = tt
sums_solved n all (κ ∷ κs) [] t s w e = absurd s
sums_solved n all (κ ∷ κs) (x ∷ ss) t s w e = (
  (s.0.sum.solved n t w.0.place).1 (e 0 (omega arith)),
  sums_solved n all κs ss t s.1 w.1 (λ i h. e (suc i) (omega (arith, h))),
)

pub solved_sums : (n : ℕ) (all κs : List Kept) (ss : List PivotSum) (t : ℕ → Number) → AreSolved all κs ss → Each (IsKeptWithin n) κs →
    Solve n t (lines_of κs) → (i : ℕ) → i < length κs → t (pivot_at κs i) ≡ sum_entries (entries_at ss i) t
solved_sums n all [] ss t s w e i h = absurd (omega (arith, h))
solved_sums n all (κ ∷ κs) [] t s w e i h = absurd s
solved_sums n all (κ ∷ κs) (x ∷ ss) t s w e zero h = (s.0.sum.solved n t w.0.place).0 e.0
solved_sums n all (κ ∷ κs) (x ∷ ss) t s w e (suc i) h = solved_sums n all κs ss t s.1 w.1 e.1 i (omega (arith, h))

pub sums_agree : (es : List SparseEntry) (t v : ℕ → Number) → Each (λ e. t e.unknown ≡ v e.unknown) es → sum_entries es t ≡ sum_entries es v
sums_agree [] t v h = refl
sums_agree (e ∷ es) t v h = λ i. add (mul (value_of e.value) (h.0 i)) (sums_agree es t v h.1 i)

-- ---- values of terms
pub entries_value : (numbers : List ℕ) (s : Sign) (es : List SparseEntry) → IsRow es → (v : ℕ → Number) →
    sum_terms (map term_of (map (entry_term numbers s) es)) v ≡ signed s (sum_entries es (λ u. v (get_or numbers u 0)))
entries_value numbers s [] r v = sym (signed_zero s)
entries_value numbers Plus (e ∷ es) r v = ap (add (mul (value_of e.value) (v (get_or numbers e.unknown 0)))) (entries_value numbers Plus es r.2 v)
entries_value numbers Minus (e ∷ es) r v =
    let x = v (get_or numbers e.unknown 0) in
    let opposite : value_of (signed_fraction Minus e.value) ≡ neg (value_of e.value) = sym (over-neg e.value.num e.value.den r.1.held.terms.positive) in
    (λ i. add (mul (opposite i) x) (entries_value numbers Minus es r.2 v i)) ∙ law (value_of e.value) x (sum_entries es (λ u. v (get_or numbers u 0)))
  where
    law : (a x b : Number) → add (mul (neg a) x) (neg b) ≡ neg (add (mul a x) b)
    law a x b = ap (λ y. add y (neg b)) (num_mul_assoc (whole (negsuc 0)) a x) ∙ sym (num_mul-add (whole (negsuc 0)) (mul a x) b)

-- the terms with a sign are worth those without, times the sign
pub told_value : (numbers : List ℕ) (ss : List PivotSum) (k : ℕ) (s : Sign) (o : Option ℕ) (v : ℕ → Number) → ((i : ℕ) → o ≡ Some i → IsRow (entries_at ss i)) →
    sum_terms (map term_of (told_by numbers ss k s o)) v ≡ signed s (sum_terms (map term_of (told_by numbers ss k Plus o)) v)
told_value numbers ss k s None v row = unit_value (get_or numbers k 0) s v ∙ ap (signed s) (sym (unit_value (get_or numbers k 0) Plus v))
told_value numbers ss k s (Some i) v row =
    entries_value numbers s (entries_at ss i) (row i refl) v ∙ ap (signed s) (sym (entries_value numbers Plus (entries_at ss i) (row i refl) v))

-- a fraction other than 0 stays one with a sign
pub entry_proper : (numbers : List ℕ) (s : Sign) (e : SparseEntry) → IsEntry e → IsProper (term_of (entry_term numbers s e))
entry_proper numbers Plus e h = record { terms = h.held.terms; not_zero = numerator e.value h.held.terms.positive h.not_zero }
entry_proper numbers Minus e h =
    let held = neg-held e.value h.held in
    record {
      terms = held.terms;
      not_zero = numerator (signed_fraction Minus e.value) held.terms.positive
          (λ z. neg-not_zero (value_of e.value) h.not_zero (over-neg e.value.num e.value.den h.held.terms.positive ∙ z));
    }

-- names in range
pub told_ranges : (n : ℕ) (κs : List Kept) (at : List (Option ℕ)) (numbers : List ℕ) (ss : List PivotSum) → ArePivots n κs at (length κs) → AreNumbers at n numbers → AreSolved κs κs ss → Each (IsKeptWithin n) κs →
    AreTold (length at) at numbers ss
told_ranges n κs at numbers ss p m s w = record {
  tellers = refl;
  len = m.len ∙ sym p.len;
  rows = λ k i e. subst (λ l. i < l) (sym (length-sums κs κs ss s)) (p.pivot k i e).0;
  below = λ i h.
      let inside : i < length κs = subst (λ l. i < l) (length-sums κs κs ss s) h in
      let l = pivot_within n κs w i inside in
      let long = p.len in
      each_map (λ e. e.unknown < pivot_at κs i) (λ e. e.unknown < length at) (λ e q. omega (arith, q, l, long)) (entries_at ss i)
      (sum_at κs κs ss s i inside).before;
}

-- The sums that kept rows give for their pivots.
--   is_pivot        an unknown is the pivot of a kept row
--   sum_entries     the sum of the fractions times the numbers of their unknowns
--   IsNegated       a row with the negative of each fraction of another
--   IsPivotSum      unknowns before a pivot, with fractions: their sum is the pivot's number exactly in the solutions of its row
--   IsSolved, AreSolved    a pivot as such a sum of unknowns that are the pivot of no row; those of all rows, in their order
-- Source: the solution of a linear system by its free unknowns, as in any textbook.
use Rattle.std.specs.Prelude.{◌≡◌, ◌≢◌, ℕ, ◌<◌, ◌↔◌, List, [], ◌∷◌, Bool, true, false, cond, nat_eq}
use Rattle.tensor_defs.specs.Prelude.{Each, Number, add, mul, neg, num_zero, value_of, Kept}
use Rattle.sparse_rows.specs.Rows.{coeff, IsRow}
use Rattle.sparse_rows.specs.Solutions.{dot}
use Rattle.sparse_rows.specs.declared.entry.Entry.{Entry}
use Rattle.sparse_rows.specs.declared.entry.PivotSum.{PivotSum}

abbrev pub is_pivot : List Kept → ℕ → Bool
is_pivot [] u = false
is_pivot (κ ∷ κs) u = cond (nat_eq u κ.pivot) true (is_pivot κs u)

abbrev pub sum_entries : List Entry → (ℕ → Number) → Number
sum_entries [] t = num_zero
sum_entries (e ∷ es) t = add (mul (value_of e.value) (t e.unknown)) (sum_entries es t)

pub record IsNegated (xs es : List Entry) : Type 0 where
  pub is_row : IsRow es
  pub same : (u : ℕ) → coeff es u ≡ neg (coeff xs u)
  pub below : (k : ℕ) → Each (λ e. e.unknown < k) xs → Each (λ e. e.unknown < k) es

pub record IsPivotSum (κ : Kept) (es : List Entry) : Type 0 where
  pub is_row : IsRow es
  pub before : Each (λ e. e.unknown < κ.pivot) es
  pub same : (u : ℕ) → u ≢ κ.pivot → coeff es u ≡ neg (κ.line u)
  pub solved : (n : ℕ) (t : ℕ → Number) → κ.pivot < n → (dot n κ.line t ≡ num_zero) ↔ (t κ.pivot ≡ sum_entries es t)

pub record IsSolved (all : List Kept) (κ : Kept) (s : PivotSum) : Type 0 where
  pub pivot : s.pivot ≡ κ.pivot
  pub sum : IsPivotSum κ s.terms.items
  pub free : Each (λ e. is_pivot all e.unknown ≡ false) s.terms.items

abbrev pub AreSolved : List Kept → List Kept → List PivotSum → Type 0
AreSolved all [] [] = Unit {0}
AreSolved all (κ ∷ κs) (s ∷ ss) = IsSolved all κ s × AreSolved all κs ss
AreSolved all κs ss = ⊥

-- The pivots of reduced rows.
--   pivot-own, pivot-other    a row's own pivot is one, other unknowns are where the rest says so
--   IsPivotRow, pivot_rows    each row is 1 at its pivot and 0 at the others
--   from_sum, to_sum          a sum that is 0
use Rattle.std.proofs.Common.{[], ◌≡◌, ◌≢◌, ℕ, inl, inr, List, ◌∷◌, refl, ap, sym, ◌∙◌, true, cond}
use Rattle.std.proofs.lemmas.Bool.{cases_eq, eq-eqb, ne_eqb}
use Rattle.tensor_defs.specs.Prelude.{Number, add, neg, num_zero, num_one, Kept, Each}
use Rattle.number_laws.proofs.NumberLaws.{num_add_comm, num_add_assoc, num_add-zero, num_zero-add, num_add-neg}
use Rattle.sparse_rows.specs.Prelude.{AreApart, AllApart, IsLeading, is_pivot}

pub pivot-own : (κ : Kept) (κs : List Kept) (u : ℕ) → u ≡ κ.pivot → is_pivot (κ ∷ κs) u ≡ true
pivot-own κ κs u e = ap (λ b. cond b true (is_pivot κs u)) (eq-eqb u κ.pivot e)

pub pivot-other : (κ : Kept) (κs : List Kept) (u : ℕ) → u ≢ κ.pivot → is_pivot (κ ∷ κs) u ≡ is_pivot κs u
pivot-other κ κs u h = ap (λ b. cond b true (is_pivot κs u)) (ne_eqb u κ.pivot h)

pivot-later : (κ : Kept) (κs : List Kept) (u : ℕ) → is_pivot κs u ≡ true → is_pivot (κ ∷ κs) u ≡ true
pivot-later κ κs u h = elim (cases_eq u κ.pivot) [
  | inl e ↦ pivot-own κ κs u e
  | inr e ↦ pivot-other κ κs u e ∙ h
]

pivot-apart : (κ : Kept) (κs : List Kept) (u : ℕ) → Each (AreApart κ) κs → is_pivot κs u ≡ true → κ.line u ≡ num_zero
pivot-apart κ [] u a h = cc
pivot-apart κ (κ' ∷ κs) u a h = elim (cases_eq u κ'.pivot) [
  | inl e ↦ ap κ.line e ∙ a.0.first
  | inr e ↦ pivot-apart κ κs u a.1 (sym (pivot-other κ' κs u e) ∙ h)
]

pub record IsPivotRow (all : List Kept) (κ : Kept) : Type 0 where
  pub own : κ.line κ.pivot ≡ num_one
  pub is_one : is_pivot all κ.pivot ≡ true
  pub others : (u : ℕ) → is_pivot all u ≡ true → u ≢ κ.pivot → κ.line u ≡ num_zero

later_rows : (κ : Kept) (all κs : List Kept) → Each (AreApart κ) κs → Each (IsPivotRow all) κs → Each (IsPivotRow (κ ∷ all)) κs
later_rows κ all [] a p = tt
later_rows κ all (κ' ∷ κs) a p = (
  record {
    own = p.0.own;
    is_one = pivot-later κ all κ'.pivot p.0.is_one;
    others = λ u h e. elim (cases_eq u κ.pivot) [
      | inl q ↦ ap κ'.line q ∙ a.0.second
      | inr q ↦ p.0.others u (sym (pivot-other κ all u q) ∙ h) e
    ];
  },
  later_rows κ all κs a.1 p.1,
)

pub pivot_rows : (κs : List Kept) → Each IsLeading κs → AllApart κs → Each (IsPivotRow κs) κs
pivot_rows [] l a = tt
pivot_rows (κ ∷ κs) l a = (
  record {
    own = l.0.own;
    is_one = pivot-own κ κs κ.pivot refl;
    others = λ u h e. pivot-apart κ κs u a.0 (sym (pivot-other κ κs u e) ∙ h);
  },
  later_rows κ κs κs a.0 (pivot_rows κs l.1 a.1),
)

pub from_sum : (x y : Number) → add x y ≡ num_zero → x ≡ neg y
from_sum x y e = sym (num_add-zero x) ∙ ap (add x) (sym (num_add-neg y)) ∙ sym (num_add_assoc x y (neg y)) ∙ ap (λ z. add z (neg y)) e ∙ num_zero-add (neg y)

pub to_sum : (x y : Number) → x ≡ neg y → add x y ≡ num_zero
to_sum x y e = ap (λ z. add z y) e ∙ num_add_comm (neg y) y ∙ num_add-neg y

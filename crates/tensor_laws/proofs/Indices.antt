-- Axes and indices: equal or not, and the test of equality.
--   axis_cases, index_cases    two axes, two indices are equal or not
--   same_own, same_told        `same_index` is true of an index and itself, and only there
use Rattle.std.proofs.Common.{◌≡◌, ◌≢◌, true, [], ◌∷◌, refl, ap, ◌⊎◌, inl, inr}
use Rattle.list_laws.proofs.Lists.{heads, tails}
use Rattle.tensor_defs.specs.Prelude.{Axis, x1, x2, x3, Index, same_index}

pub axis_cases : (i j : Axis) → (i ≡ j) ⊎ (i ≢ j)
axis_cases x1 x1 = inl refl
axis_cases x2 x2 = inl refl
axis_cases x3 x3 = inl refl
axis_cases x1 x2 = inr (λ e. cc)
axis_cases x1 x3 = inr (λ e. cc)
axis_cases x2 x1 = inr (λ e. cc)
axis_cases x2 x3 = inr (λ e. cc)
axis_cases x3 x1 = inr (λ e. cc)
axis_cases x3 x2 = inr (λ e. cc)

pub index_cases : (c d : Index) → (c ≡ d) ⊎ (c ≢ d)
index_cases [] [] = inl refl
index_cases [] (j ∷ js) = inr (λ e. cc)
index_cases (i ∷ is) [] = inr (λ e. cc)
index_cases (i ∷ is) (j ∷ js) = elim (axis_cases i j) [
  | inl p ↦ elim (index_cases is js) [
    | inl q ↦ inl (λ n. p n ∷ q n)
    | inr q ↦ inr (λ e. q (tails e))
  ]
  | inr p ↦ inr (λ e. p (heads e))
]

pub same_own : (is : Index) → same_index is is ≡ true
same_own [] = refl
same_own (x1 ∷ is) = same_own is
same_own (x2 ∷ is) = same_own is
same_own (x3 ∷ is) = same_own is

pub same_told : (is js : Index) → same_index is js ≡ true → is ≡ js
same_told [] [] e = refl
same_told [] (j ∷ js) e = cc
same_told (i ∷ is) [] e = cc
same_told (x1 ∷ is) (x1 ∷ js) e = ap (λ ks. x1 ∷ ks) (same_told is js e)
same_told (x2 ∷ is) (x2 ∷ js) e = ap (λ ks. x2 ∷ ks) (same_told is js e)
same_told (x3 ∷ is) (x3 ∷ js) e = ap (λ ks. x3 ∷ ks) (same_told is js e)
same_told (x1 ∷ is) (x2 ∷ js) e = cc
same_told (x1 ∷ is) (x3 ∷ js) e = cc
same_told (x2 ∷ is) (x1 ∷ js) e = cc
same_told (x2 ∷ is) (x3 ∷ js) e = cc
same_told (x3 ∷ is) (x1 ∷ js) e = cc
same_told (x3 ∷ is) (x2 ∷ js) e = cc

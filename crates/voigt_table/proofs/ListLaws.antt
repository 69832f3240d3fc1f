-- What holds at each place of a list.
--   rows_pushed     of the rows of a list with one more member
--   each_at         of the member at a place
use Rattle.std.proofs.Common.{◌≡◌, ℕ, zero, suc, ◌<◌, List, [], ◌∷◌, ◌++◌, map, length, get_or, sym, subst, arith}
use Rattle.tensor_defs.specs.Lists.{Each}
use Rattle.reduced_form.specs.declared.forms.Term.{Term}
use Rattle.reduced_form.specs.Forms.{row_at}

-- list lemmas
-- the rows of a list with one more member
pub rows_pushed : {X : Type 0} (f : X → List Term) (P : ℕ → List Term → Type 0) (xs new : List X) (y : X) → new ≡ xs ++ y ∷ [] →
    ((k : ℕ) → k < length xs → P k (row_at (map f xs) k)) → P (length xs) (f y) → (k : ℕ) → k < length new → P k (row_at (map f new) k)
rows_pushed {X} f P xs new y is h p =
    subst (λ (ys : List X). (k : ℕ) → k < length ys → P k (row_at (map f ys) k)) (sym is) (go f P xs y h p)
  where
    go : {X : Type 0} (f : X → List Term) (P : ℕ → List Term → Type 0) (xs : List X) (y : X) →
        ((k : ℕ) → k < length xs → P k (row_at (map f xs) k)) → P (length xs) (f y) → (k : ℕ) → k < length (xs ++ y ∷ []) →
        P k (row_at (map f (xs ++ y ∷ [])) k)
    go f P [] y h p zero l = p
    go f P [] y h p (suc k) l = absurd (omega arith)
    go f P (x ∷ xs) y h p zero l = h 0 (omega arith)
    go f P (x ∷ xs) y h p (suc k) l = go f (λ i us. P (suc i) us) xs y (λ i m. h (suc i) (omega arith)) p k (omega arith)

-- what is so of each member is so of the one at a place
pub each_at : {X : Type 0} (P : X → Type 0) (d : X) (xs : List X) → Each P xs → (k : ℕ) → k < length xs → P (get_or xs k d)
each_at P d [] e k l = absurd (omega arith)
each_at P d (x ∷ xs) e zero l = e.0
each_at P d (x ∷ xs) e (suc k) l = each_at P d xs e.1 k (omega arith)

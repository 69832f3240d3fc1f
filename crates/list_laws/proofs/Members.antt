-- A fact of each element of a list.
--   each_map, each_both            it follows from another fact, or from two
--   each_push, each_append, each_split    at a last element, and at joined lists
--   each_held, each_from           it holds of what the list contains, and the other way round
--   each_take                      it holds of the first elements
--   each_at, each_get, each_found, each_read    the same by places
-- `Bridges` takes `Each` to `All` and `AllByRecursion` of std, whose lemmas stand in lemmas.List.Elements.
use Rattle.std.proofs.Common.{◌≡◌, ℕ, zero, suc, ◌<◌, List, [], ◌∷◌, ◌++◌, length, get_or, take, sym, arith, inl, inr, subst}
use Rattle.std.specs.Prelude.{Contains, Some, slice_get}
use Rattle.std.proofs.lemmas.Option.{get_or_from_slice_get, slice_get_within}
use Rattle.tensor_defs.specs.Lists.{Each}
use Rattle.list_laws.proofs.Lists.{held_here, held_later, held_cases, none_held}

pub each_map : {X : Type 0} (P Q : X → Type 0) → ((x : X) → P x → Q x) → (xs : List X) → Each P xs → Each Q xs
each_map P Q f [] e = tt
each_map P Q f (x ∷ xs) e = (f x e.0, each_map P Q f xs e.1)

pub each_both : {X : Type 0} (P Q R : X → Type 0) → ((x : X) → P x → Q x → R x) → (xs : List X) → Each P xs →
    Each Q xs → Each R xs
each_both P Q R f [] p q = tt
each_both P Q R f (x ∷ xs) p q = (f x p.0 q.0, each_both P Q R f xs p.1 q.1)

pub each_push : {X : Type 0} (P : X → Type 0) (xs : List X) (y : X) → Each P xs → P y → Each P (xs ++ y ∷ [])
each_push P [] y e p = (p, tt)
each_push P (x ∷ xs) y e p = (e.0, each_push P xs y e.1 p)

pub each_append : {X : Type 0} (P : X → Type 0) (xs ys : List X) → Each P xs → Each P ys → Each P (xs ++ ys)
each_append P [] ys p q = q
each_append P (x ∷ xs) ys p q = (p.0, each_append P xs ys p.1 q)

pub each_split : {X : Type 0} (P : X → Type 0) (xs ys : List X) → Each P (xs ++ ys) → Each P xs × Each P ys
each_split P [] ys e = (tt, e)
each_split P (x ∷ xs) ys e = let rest = each_split P xs ys e.1 in ((e.0, rest.0), rest.1)

pub each_take : {X : Type 0} (P : X → Type 0) (xs : List X) (k : ℕ) → Each P xs → Each P (take k xs)
each_take P xs zero e = tt
each_take P [] (suc k) e = tt
each_take P (x ∷ xs) (suc k) e = (e.0, each_take P xs k e.1)

-- ---- what the list contains
pub each_held : {X : Type 0} (P : X → Type 0) (xs : List X) → Each P xs → (x : X) → Contains xs x → P x
each_held P [] e x c = absurd (none_held x c)
each_held P (y ∷ xs) e x c = elim (held_cases x y xs c) [
  | inl is ↦ subst P is e.0
  | inr d ↦ each_held P xs e.1 x d
]

pub each_from : {X : Type 0} (P : X → Type 0) (xs : List X) → ((x : X) → Contains xs x → P x) → Each P xs
each_from P [] f = tt
each_from P (y ∷ xs) f = (f y (held_here y xs), each_from P xs (λ x c. f x (held_later x y xs c)))

-- ---- by places
pub each_at : {X : Type 0} (P : X → Type 0) (xs : List X) → Each P xs → (k : ℕ) (d : X) → k < length xs →
    P (get_or xs k d)
each_at P [] e k d h = absurd (omega arith)
each_at P (x ∷ xs) e zero d h = e.0
each_at P (x ∷ xs) e (suc k) d h = each_at P xs e.1 k d (omega arith)

pub each_get : {X : Type 0} (P : X → Type 0) (d : X) (xs : List X) → ((k : ℕ) → k < length xs → P (get_or xs k d)) →
    Each P xs
each_get P d [] f = tt
each_get P d (x ∷ xs) f = (f 0 (omega arith), each_get P d xs (λ k h. f (suc k) (omega arith)))

pub each_found : {X : Type 0} (P : X → Type 0) (xs : List X) → Each P xs → (k : ℕ) (x : X) →
    slice_get xs k ≡ Some x → P x
each_found P xs e k x is = subst P (get_or_from_slice_get xs k x x is) (each_at P xs e k x (slice_get_within xs k x is))

pub each_read : {X : Type 0} (P : X → Type 0) (xs : List X) → Each P xs → (k : ℕ) (x : X) → k < length xs →
    x ≡ get_or xs k x → P x
each_read P xs e k x h is = subst P (sym is) (each_at P xs e k x h)

-- Lists, their elements, and options.
--   heads, tails, none_some       equal lists have equal first elements and rests; no element isn't one element
--   held_here, held_later         what a list with a first element contains
--   held_cases, none_held, held_one
--   held_place                    the place of an element, read with any default
--   found_held, held_found        what stands at a place is contained, and the other way round
--   element_at                    the element at a place within the list
--   first_part                    of two equal joins one first part begins with the other
--   drop_head                     a list from a place on, with the element that is read there
--   text_at                       a text of a table of lent texts, read at a place
--   option_cases                  an option is None or has a value
-- In std: `append-nil`, `append_assoc`, `append_cancel_left`, `drop_more` (a list from a place on), `take_more`,
-- `take_all`, `drop-drop`, `get_or_push`, `get_or_append_left` (lemmas.List); `Contains-push`, `Contains-push_cases`,
-- `Contains-append_left` (lemmas.List.Elements); `same_Some`, `none-some`, `slice_get-get_or`, `slice_get_within`,
-- `get_or_from_slice_get` (lemmas.Option).
use Rattle.std.proofs.Common.{◌≡◌, ℕ, zero, suc, ◌<◌, List, [], ◌∷◌, length, get_or, drop, ◌+◌, refl, ap, sym, ◌∙◌, arith, ◌⊎◌, inl, inr}
use Rattle.std.specs.Prelude.{◌++◌, Contains, Option, Some, None, slice_get, map}
use Rattle.std.proofs.lemmas.List.{get_or_default, drop_more}
use Rattle.std.proofs.lemmas.Option.{slice_get-get_or, slice_get_within, get_or_from_slice_get}
use Rattle.std.specs.Borrow.{Bor}

pub heads : {X : Type 0} {x y : X} {xs ys : List X} → x ∷ xs ≡ y ∷ ys → x ≡ y
heads e = cc

pub tails : {X : Type 0} {x y : X} {xs ys : List X} → x ∷ xs ≡ y ∷ ys → xs ≡ ys
tails e = cc

pub none_some : {X : Type 0} {y : X} {ys : List X} → [] ≡ y ∷ ys → ⊥
none_some e = cc

-- ---- what a list contains
pub held_here : {X : Type 0} (x : X) (xs : List X) → Contains (x ∷ xs) x
held_here x xs = (0, omega arith, refl)

pub held_later : {X : Type 0} (x y : X) (xs : List X) → Contains xs x → Contains (y ∷ xs) x
held_later x y xs c = (suc c.0, omega (arith, c.1), c.2)

pub held_cases : {X : Type 0} (x y : X) (xs : List X) → Contains (y ∷ xs) x → (y ≡ x) ⊎ Contains xs x
held_cases x y xs (zero, lt, is) = inl is
held_cases x y xs (suc k, lt, is) = inr (k, omega (arith, lt), is)

pub none_held : {X : Type 0} (x : X) → Contains [] x → ⊥
none_held x c = omega (arith, c.1)

pub held_one : {X : Type 0} (x y : X) → Contains (y ∷ []) x → y ≡ x
held_one x y c = elim (held_cases x y [] c) [
  | inl e ↦ e
  | inr d ↦ absurd (none_held x d)
]

pub held_place : {X : Type 0} (x d : X) (xs : List X) → Contains xs x → (k : ℕ) × (k < length xs) × (get_or xs k d ≡ x)
held_place x d xs (k, lt, is) = (k, lt, get_or_default xs k d x lt ∙ is)

pub found_held : {X : Type 0} (x : X) (xs : List X) (k : ℕ) → slice_get xs k ≡ Some x → Contains xs x
found_held x xs k e = (k, slice_get_within xs k x e, get_or_from_slice_get xs k x x e)

pub held_found : {X : Type 0} (x : X) (xs : List X) → Contains xs x → (k : ℕ) × (slice_get xs k ≡ Some x)
held_found x xs (k, lt, is) = (k, slice_get-get_or xs k x lt ∙ ap Some is)

pub element_at : {X : Type 0} (xs : List X) (k : ℕ) → k < length xs → (x : X) × (slice_get xs k ≡ Some x)
element_at [] k h = absurd (omega arith)
element_at (x ∷ xs) zero h = (x, refl)
element_at (x ∷ xs) (suc k) h = element_at xs k (omega arith)

-- ---- joins
pub first_part : {X : Type 0} (u v x y : List X) → u ++ v ≡ x ++ y →
    ((t : List X) × (x ≡ u ++ t)) ⊎ ((t : List X) × (u ≡ x ++ t))
first_part [] v x y e = inl (x, refl)
first_part (a ∷ u) v [] y e = inr (a ∷ u, refl)
first_part (a ∷ u) v (b ∷ x) y e = elim (first_part u v x y (tails e)) [
  | inl t ↦ inl (t.0, ap (λ z. z ∷ x) (sym (heads e)) ∙ ap (λ z. a ∷ z) t.1)
  | inr t ↦ inr (t.0, λ i. heads e i ∷ t.1 i)
]

pub drop_head : {X : Type 0} (xs : List X) (i : ℕ) (x : X) → i < length xs → x ≡ get_or xs i x →
    drop i xs ≡ x ∷ drop (i + 1) xs
drop_head xs i x h e = drop_more xs i x h ∙ ap (λ y. y ∷ drop (i + 1) xs) (sym e)

-- ---- tables
pub text_at : (rows : List (Bor (List ℕ))) (k : ℕ) (d : Bor (List ℕ)) → k < length rows →
    (get_or rows k d).now ≡ get_or (map (λ r. r.now) rows) k []
text_at [] k d lt = absurd (omega arith)
text_at (r ∷ rs) zero d lt = refl
text_at (r ∷ rs) (suc k) d lt = text_at rs k d (omega arith)

-- ---- options
pub option_cases : {X : Type 0} (o : Option X) → (o ≡ None) ⊎ ((x : X) × (o ≡ Some x))
option_cases None = inl refl
option_cases (Some x) = inr (x, refl)

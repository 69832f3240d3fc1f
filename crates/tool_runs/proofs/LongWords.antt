-- Words that are too long, one by one.
--   short_more, first_here    a word that isn't too long behind others, and the first one that is
--   none_long       no word is too long
--   none_first      where no word is too long there is no first one
use Rattle.std.proofs.Common.{◌≡◌, inl, inr, ℕ, zero, suc, ◌+◌, ◌<◌, ◌≤◌, List, [], ◌∷◌, length, map, take, slice_index_or, subst, refl, ap, arith}
use Rattle.tool_runs.specs.Tools.{FirstLongFrom, NoneLong, longest_word, Words}

pub short_more : {A : Type 0} (f : A → List ℕ) (ws : List A) (i : ℕ) (d : A) → i < length ws → length (f (slice_index_or ws i d)) ≤ longest_word
    → NoneLong (map f (take i ws)) → NoneLong (map f (take (i + 1) ws))
short_more f [] i d within short none = absurd (omega (arith, within))
short_more f (w ∷ ws) zero d within short none = (short, tt)
short_more f (w ∷ ws) (suc i) d within short none =
    let next : NoneLong (map f (take (suc (i + 1)) (w ∷ ws))) = (none.0, short_more f ws i d (omega (arith, within)) short none.1) in
    let same : suc (i + 1) ≡ suc i + 1 = omega arith in
    subst (λ (n : ℕ). NoneLong (map f (take n (w ∷ ws)))) same next

pub first_here : {A : Type 0} (f : A → List ℕ) (k : ℕ) (ws : List A) (i : ℕ) (d : A) → i < length ws → longest_word < length (f (slice_index_or ws i d))
    → NoneLong (map f (take i ws)) → FirstLongFrom k (map f ws) (k + i)
first_here f k [] i d within more none = absurd (omega (arith, within))
first_here f k (w ∷ ws) zero d within more none = inl (more, omega arith)
first_here f k (w ∷ ws) (suc i) d within more none =
    let same : k + 1 + i ≡ k + suc i = omega arith in
    inr (none.0, subst (λ (n : ℕ). FirstLongFrom (k + 1) (map f ws) n) same (first_here f (k + 1) ws i d (omega (arith, within)) more none.1))

take_whole : {A : Type 0} (ws : List A) → take (length ws) ws ≡ ws
take_whole [] = refl
take_whole (w ∷ ws) = ap (λ (l : List _). w ∷ l) (take_whole ws)

pub none_long : {A : Type 0} (f : A → List ℕ) (ws : List A) (n : ℕ) → n ≡ length ws → NoneLong (map f (take n ws)) → NoneLong (map f ws)
none_long f ws n all none =
    subst (λ (l : List _). NoneLong (map f l)) (take_whole ws) (subst (λ (k : ℕ). NoneLong (map f (take k ws))) all none)

pub none_first : (words : Words) (k n : ℕ) → NoneLong words → FirstLongFrom k words n → ⊥
none_first [] k n none first = first
none_first (w ∷ ws) k n none (inl x) = let a = none.0 in let b = x.0 in omega arith
none_first (w ∷ ws) k n none (inr x) = none_first ws (k + 1) n none.1 x.1

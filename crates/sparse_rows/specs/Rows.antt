-- What sparse rows stand for.
--   part, coeff     what an entry gives to an unknown; the line of a list of entries
--   IsEntry         the fraction of an entry is one that the program holds, and isn't 0
--   Above, IsRow    all unknowns of a list come after k; rising unknowns, each with a fraction other than 0
--   IsDifference    a row of ρ - f·σ, with no product or difference that grows
--   IsNegative      an entry for -f·b
--   IsOfBoth, IsLeft, DifferenceGrows    an entry for a - f·b; none where that is 0; where it grows
-- Source: this project's own.
use Rattle.std.specs.Prelude.{◌≡◌, ◌≢◌, ℕ, ◌<◌, List, [], ◌∷◌, cond, nat_eq, ◌⊎◌, Option, Some, None}
use Rattle.tensor_defs.specs.Prelude.{Each, Number, add, mul, neg, num_zero, value_of, ReachesLimit, Line, minus_times, TimesGrows}
use Rattle.exact_frac.specs.Held.{IsHeld}
use Rattle.sparse_rows.specs.declared.entry.Entry.{Entry}

unfoldable pub part : Entry → Line
part e u = cond (nat_eq u e.unknown) (value_of e.value) num_zero

-- the sum of what the entries give
abbrev pub coeff : List Entry → Line
coeff [] u = num_zero
coeff (e ∷ es) u = add (part e u) (coeff es u)

abbrev pub Above : ℕ → List Entry → Type 0
Above k es = Each (λ e. k < e.unknown) es

pub record IsEntry (e : Entry) : Type 0 where
  pub held : IsHeld e.value
  pub not_zero : value_of e.value ≢ num_zero

abbrev pub IsRow : List Entry → Type 0
IsRow [] = Unit {0}
IsRow (e ∷ es) = Above e.unknown es × IsEntry e × IsRow es

pub record IsDifference (ρ : Line) (f : Number) (σ : Line) (es : List Entry) : Type 0 where
  pub is_row : IsRow es
  pub same : (u : ℕ) → coeff es u ≡ minus_times ρ f σ u
  pub calm : TimesGrows ρ f σ → ⊥

pub record IsNegative (f : Number) (b e : Entry) : Type 0 where
  pub unknown : e.unknown ≡ b.unknown
  pub value : value_of e.value ≡ neg (mul f (value_of b.value))
  pub entry : IsEntry e
  pub calm : ReachesLimit (mul f (value_of b.value)) → ⊥

pub record IsOfBoth (f : Number) (a b e : Entry) : Type 0 where
  pub unknown : e.unknown ≡ a.unknown
  pub value : value_of e.value ≡ add (value_of a.value) (neg (mul f (value_of b.value)))
  pub entry : IsEntry e
  pub calm : ReachesLimit (mul f (value_of b.value)) → ⊥

abbrev pub IsLeft : Number → Entry → Entry → Option Entry → Type 0
IsLeft f a b (Some e) = IsOfBoth f a b e
IsLeft f a b None =
    (add (value_of a.value) (neg (mul f (value_of b.value))) ≡ num_zero) × (ReachesLimit (mul f (value_of b.value)) → ⊥)

abbrev pub DifferenceGrows : Number → Entry → Entry → Type 0
DifferenceGrows f a b =
    ReachesLimit (mul f (value_of b.value)) ⊎ ReachesLimit (add (value_of a.value) (neg (mul f (value_of b.value))))

-- The elimination on the hexagonal axes, whose growth is the one reason for the refusal of a table as too large.
--   Line, Kept      a row: a number for each unknown, by its place in their order; a row that is kept, with its pivot
--   less, reduced   a row less a multiple of a kept row; less those of all kept rows in turn
--   IsScaled        a row divided by its value at the last unknown where it isn't 0
--   GrowsFrom       some product, difference or quotient of the elimination reaches the limit
--   IsTied          two components are the same up to a sign by the index symmetry
--   AreRepresentatives, AreUnknowns    the first component to which each is tied; the components that are their own
--   rows_of         the rows of the words, carried over to unknowns
--   Grows           the set is framed and not all plain, and the elimination on its rows grows
-- Source: Gauss and Jordan's elimination, in this project's order of steps.
use Rattle.std.specs.Prelude.{◌≡◌, ◌≢◌, ℕ, ◌↔◌, Bool, List, [], ◌∷◌, ◌++◌, length, filter, Contains, IsTrue, ◌⊎◌}
use Rattle.std.specs.Prelude.{cond, get_or, nat_lt, ◌<◌, Option, Some, None}
use Rattle.tensor_defs.specs.Lists.{Each, IsRising}
use Rattle.tensor_defs.specs.Number.{Number, add, mul, neg, num_zero, num_one, ReachesLimit}
use Rattle.tensor_defs.specs.Operation.{Operation}
use Rattle.tensor_defs.specs.Frames.{AllOf, IsPlain, IsDiagonal, IsFramed}
use Rattle.tensor_defs.specs.Tensor.{Index, Tensor, same_index, sum_indices, coefficient, sign}
use Rattle.tensor_defs.specs.Jahn.{JahnSymbol, rank, HasSymmetry}
use Rattle.tensor_defs.specs.Words.{Word, words, is_used, even_row, odd_row}

-- a row: a fraction for each unknown, by its place; 0 at places past the last unknown
abbrev pub Line : Type 0
Line = ℕ → Number

pub record Kept : Type 0 where
  pub pivot : ℕ
  pub line : Line

-- ρ(u) - f·σ(u)
abbrev pub minus_times : Line → Number → Line → Line
minus_times ρ f σ u = add (ρ u) (neg (mul f (σ u)))

-- ρ(u) - f·κ(u), with f the value of ρ at κ's pivot
abbrev pub less : Line → Kept → Line
less ρ κ = minus_times ρ (ρ κ.pivot) κ.line

abbrev pub reduced : List Kept → Line → Line
reduced [] ρ = ρ
reduced (κ ∷ κs) ρ = reduced κs (less ρ κ)

-- a product or a difference of `minus_times` reaches the limit
pub record TimesGrows (ρ : Line) (f : Number) (σ : Line) : Type 0 where
  pub place : ℕ
  pub reaches : ReachesLimit (mul f (σ place)) ⊎ ReachesLimit (minus_times ρ f σ place)

-- where the factor isn't 0, a product or a difference formed by `less` reaches the limit
abbrev pub LessGrows : Line → Kept → Type 0
LessGrows ρ κ = (ρ κ.pivot ≢ num_zero) × TimesGrows ρ (ρ κ.pivot) κ.line

abbrev pub ReducingGrows : List Kept → Line → Type 0
ReducingGrows [] ρ = ⊥
ReducingGrows (κ ∷ κs) ρ = LessGrows ρ κ ⊎ ReducingGrows κs (less ρ κ)

abbrev pub IsZeroLine : Line → Type 0
IsZeroLine ρ = (u : ℕ) → ρ u ≡ num_zero

-- the row ρ, divided by its value at the last unknown where it isn't 0
pub record IsScaled (ρ : Line) (κ : Kept) : Type 0 where
  pub last : (u : ℕ) → κ.pivot < u → ρ u ≡ num_zero
  pub not_zero : ρ κ.pivot ≢ num_zero
  pub scaled : (u : ℕ) → mul (ρ κ.pivot) (κ.line u) ≡ ρ u

-- a number of the row reaches the limit
pub record LineGrows (ρ : Line) : Type 0 where
  pub place : ℕ
  pub reaches : ReachesLimit (ρ place)

abbrev pub cleared : Kept → List Kept → List Kept
cleared new [] = []
cleared new (κ ∷ κs) = record { pivot = κ.pivot; line = less κ.line new } ∷ cleared new κs

abbrev pub ClearingGrows : Kept → List Kept → Type 0
ClearingGrows new [] = ⊥
ClearingGrows new (κ ∷ κs) = LessGrows κ.line new ⊎ ClearingGrows new κs

-- some step on these rows, taken in order, grows
abbrev pub GrowsFrom : List Kept → List Line → Type 0
GrowsFrom κs [] = ⊥
GrowsFrom κs (ρ ∷ ρs) =
    ReducingGrows κs ρ
    ⊎ (IsZeroLine (reduced κs ρ) × GrowsFrom κs ρs)
    ⊎ ((new : Kept) × IsScaled (reduced κs ρ) new
    × (LineGrows new.line ⊎ ClearingGrows new κs ⊎ GrowsFrom (cleared new κs ++ new ∷ []) ρs))

-- for each component that is not dropped its representative and sign
abbrev pub Carrier : Type 0
Carrier = Index → Option (Index × Number)

abbrev pub IsSign : Number → Type 0
IsSign s = (s ≡ num_one) ⊎ (s ≡ neg num_one)

-- each list with the symbol's index symmetry has s times its component d at c
abbrev pub IsTied : JahnSymbol → Index → Index → Number → Type 0
IsTied j c d s = (t : Tensor) → HasSymmetry j t → t c ≡ mul s (t d)

-- the shape forces the component to zero, or a diagonal element of H has coefficient -1 there
abbrev pub IsDropped : JahnSymbol → (Operation → Type 0) → Index → Type 0
IsDropped j H c =
    ((t : Tensor) → HasSymmetry j t → t c ≡ num_zero)
    ⊎ ((g : Operation) × H g × IsDiagonal g × (mul (sign j.marks g) (coefficient g c c) ≡ neg num_one))

-- d is the first component to which c is tied, by the sign s
pub record IsRepresentative (j : JahnSymbol) (before : Index → Index → Bool) (c d : Index) (s : Number) : Type 0 where
  pub of_rank : length d ≡ rank j
  pub is_sign : IsSign s
  pub tied : IsTied j c d s
  pub first : (e : Index) (u : Number) → length e ≡ rank j → IsSign u → IsTied j c e u → ¬ IsTrue (before e d)

pub record AreRepresentatives
    (j : JahnSymbol) (H : Operation → Type 0) (before : Index → Index → Bool) (rep : Carrier) : Type 0 where
  pub none : (c : Index) → length c ≡ rank j → (rep c ≡ None) ↔ IsDropped j H c
  pub some : (c d : Index) (s : Number) → length c ≡ rank j → rep c ≡ Some (d, s) → IsRepresentative j before c d s

-- the unknowns: the components that are their own representatives, in their order
pub record AreUnknowns (r : ℕ) (before : Index → Index → Bool) (rep : Carrier) (us : List Index) : Type 0 where
  pub rising : IsRising before us
  pub of_rank : Each (λ c. length c ≡ r) us
  pub members : (c : Index) → length c ≡ r → Contains us c ↔ (rep c ≡ Some (c, num_one))

-- what the coefficient k of a component gives to the unknown u
abbrev pub share : Option (Index × Number) → Number → Index → Number
share None k u = num_zero
share (Some d) k u = cond (same_index d.0 u) (mul d.1 k) num_zero

-- a number for each unknown, by the places of the unknowns
abbrev pub by_place : List Index → (Index → Number) → Line
by_place us f k = cond (nat_lt k (length us)) (f (get_or us k [])) num_zero

-- coefficients of components, carried over to the unknowns
abbrev pub carried : Carrier → ℕ → List Index → (Index → Number) → Line
carried rep r us k = by_place us (λ u. sum_indices r (λ c. share (rep c) (k c) u))

abbrev pub rows_of : Carrier → ℕ → List Index → List Word → List Line
rows_of rep r us [] = []
rows_of rep r us (w ∷ ws) =
    carried rep r us (even_row w) ∷ carried rep r us (odd_row w) ∷ rows_of rep r us ws

-- the elimination for H, which is framed and not all plain, grows
abbrev pub Grows : JahnSymbol → (Operation → Type 0) → (Index → Index → Bool) → Type 0
Grows j H before =
    IsFramed H × (¬ AllOf H IsPlain)
    × ((rep : Carrier) × (us : List Index) × AreRepresentatives j H before rep × AreUnknowns (rank j) before rep us
    × GrowsFrom [] (rows_of rep (rank j) us (filter is_used (words (rank j)))))

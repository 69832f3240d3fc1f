-- Rows as equations, and rows that are solved for their pivots.
--   dot             what a row adds up to at given numbers for the first n unknowns
--   Solve           each of the rows adds up to 0
--   lines_of        kept rows without their pivots
--   HaveSameSolutions    two lists of rows have the same solutions
--   AreApart, AllApart   two kept rows are 0 at each other's pivot; all of them are
--   IsLeading       a kept row is 1 at its pivot and 0 after it
--   IsReduced       all kept rows are leading and apart
--   IsWithin, IsKeptWithin    a row is 0 from the unknown n on; a kept row is, and its pivot comes before n
--   IsPivot         the last unknown where a row isn't 0, with the inverse of its value there
--   scaled_by       a row times a number
-- Source: the reduced row echelon form of a textbook, with the last unknown of a row as its pivot.
use Rattle.std.specs.Prelude.{◌≡◌, ◌≢◌, ℕ, zero, suc, ◌<◌, ◌≤◌, List, [], ◌∷◌, ◌↔◌}
use Rattle.tensor_defs.specs.Prelude.{Each, Number, add, mul, num_zero, num_one, Line, Kept}

abbrev pub dot : ℕ → Line → (ℕ → Number) → Number
dot zero ρ t = num_zero
dot (suc n) ρ t = add (mul (ρ n) (t n)) (dot n ρ t)

abbrev pub Solve : ℕ → (ℕ → Number) → List Line → Type 0
Solve n t ρs = Each (λ ρ. dot n ρ t ≡ num_zero) ρs

abbrev pub lines_of : List Kept → List Line
lines_of [] = []
lines_of (κ ∷ κs) = κ.line ∷ lines_of κs

pub record HaveSameSolutions (ρs σs : List Line) : Type 0 where
  pub both : (n : ℕ) (t : ℕ → Number) → Solve n t ρs ↔ Solve n t σs

pub record AreApart (κ κ' : Kept) : Type 0 where
  pub first : κ.line κ'.pivot ≡ num_zero
  pub second : κ'.line κ.pivot ≡ num_zero

abbrev pub AllApart : List Kept → Type 0
AllApart [] = Unit {0}
AllApart (κ ∷ κs) = Each (AreApart κ) κs × AllApart κs

pub record IsLeading (κ : Kept) : Type 0 where
  pub own : κ.line κ.pivot ≡ num_one
  pub after : (u : ℕ) → κ.pivot < u → κ.line u ≡ num_zero

-- each pivot has 1 in its own row, nothing after it there, and 0 in the others
pub record IsReduced (κs : List Kept) : Type 0 where
  pub leading : Each IsLeading κs
  pub apart : AllApart κs

abbrev pub IsWithin : ℕ → Line → Type 0
IsWithin n ρ = (u : ℕ) → n ≤ u → ρ u ≡ num_zero

pub record IsKeptWithin (n : ℕ) (κ : Kept) : Type 0 where
  pub place : κ.pivot < n
  pub within : IsWithin n κ.line

pub record IsPivot (ρ : Line) (p : ℕ) (w : Number) : Type 0 where
  pub last : (u : ℕ) → p < u → ρ u ≡ num_zero
  pub not_zero : ρ p ≢ num_zero
  pub inverse : mul (ρ p) w ≡ num_one

abbrev pub scaled_by : Line → ℕ → Number → Kept
scaled_by ρ p w = record { pivot = p; line = λ u. mul (ρ u) w }

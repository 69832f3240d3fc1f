-- What kept rows stand for, and what the elimination answers.
--   kept_of, kepts, lines    the kept row, the kept rows, the lines that the program's rows stand for
--   AreRows, AreGivenRows    each lists rising unknowns, with fractions other than 0
--   IsEliminated    reduced rows with the solutions of the given ones and among their unknowns, where the elimination doesn't grow
--   IsFound         the fraction at an unknown, and none where it is 0
--   IsReducedRow    a row less what the kept rows take away
--   IsScaledRow, CannotScale     a row divided by its last fraction; a quotient grows
--   IsClearedRow, AreCleared     a kept row, all kept rows, less what the new row takes away
--   IsKeptRow, CannotKeep        the kept rows with one more; a step of that grows
-- Source: this project's own.
use Rattle.std.specs.Prelude.{◌≡◌, ◌≢◌, ℕ, List, [], ◌∷◌, ◌++◌, ◌⊎◌, Option, Some, None}
use Rattle.tensor_defs.specs.Prelude.{Each, Number, num_zero, Fraction, Line, Kept, less, reduced, cleared, ReducingGrows, LessGrows, ClearingGrows}
use Rattle.tensor_defs.specs.Prelude.{LineGrows, GrowsFrom}
use Rattle.exact_frac.specs.Held.{IsHeldAs}
use Rattle.sparse_rows.specs.Solutions.{IsReduced, HaveSameSolutions, lines_of, IsWithin, IsKeptWithin, IsPivot, scaled_by}
use Rattle.sparse_rows.specs.Rows.{coeff, IsRow}
use Rattle.sparse_rows.specs.declared.entry.Entry.{Entry}
use Rattle.sparse_rows.specs.declared.entry.KeptRow.{KeptRow}
use Rattle.sparse_rows.specs.declared.entry.Row.{Row}

abbrev pub kept_of : KeptRow → Kept
kept_of k = record { pivot = k.pivot; line = coeff k.entries.items }

abbrev pub kepts : List KeptRow → List Kept
kepts [] = []
kepts (k ∷ ks) = kept_of k ∷ kepts ks

abbrev pub lines : List Row → List Line
lines [] = []
lines (r ∷ rs) = coeff r.entries.items ∷ lines rs

abbrev pub AreRows : List KeptRow → Type 0
AreRows ks = Each (λ k. IsRow k.entries.items) ks

abbrev pub AreGivenRows : List Row → Type 0
AreGivenRows rs = Each (λ r. IsRow r.entries.items) rs

abbrev pub IsFound : Number → Option Fraction → Type 0
IsFound x (Some f) = IsHeldAs x f × (x ≢ num_zero)
IsFound x None = x ≡ num_zero

pub record IsReducedRow (κs : List Kept) (ρ : Line) (es : List Entry) : Type 0 where
  pub is_row : IsRow es
  pub same : coeff es ≡ reduced κs ρ
  pub calm : ReducingGrows κs ρ → ⊥

pub record IsScaledRow (ρ : Line) (k : KeptRow) : Type 0 where
  pub is_row : IsRow k.entries.items
  pub inverse : Number
  pub pivot : IsPivot ρ k.pivot inverse
  pub same : kept_of k ≡ scaled_by ρ k.pivot inverse
  pub calm : LineGrows (scaled_by ρ k.pivot inverse).line → ⊥

pub record CannotScale (ρ : Line) : Type 0 where
  pub place : ℕ
  pub inverse : Number
  pub pivot : IsPivot ρ place inverse
  pub grows : LineGrows (scaled_by ρ place inverse).line

pub record IsClearedRow (new old : Kept) (k : KeptRow) : Type 0 where
  pub is_row : IsRow k.entries.items
  pub same : kept_of k ≡ record { pivot = old.pivot; line = less old.line new }
  pub calm : LessGrows old.line new → ⊥

pub record AreCleared (new : Kept) (κs : List Kept) (ks : List KeptRow) : Type 0 where
  pub are_rows : AreRows ks
  pub same : kepts ks ≡ cleared new κs
  pub calm : ClearingGrows new κs → ⊥

pub record IsKeptRow (κs : List Kept) (ρ : Line) (ks : List KeptRow) : Type 0 where
  pub are_rows : AreRows ks
  pub place : ℕ
  pub inverse : Number
  pub pivot : IsPivot ρ place inverse
  pub same : kepts ks ≡ cleared (scaled_by ρ place inverse) κs ++ scaled_by ρ place inverse ∷ []
  pub calm_line : LineGrows (scaled_by ρ place inverse).line → ⊥
  pub calm_clear : ClearingGrows (scaled_by ρ place inverse) κs → ⊥

pub record CannotKeep (κs : List Kept) (ρ : Line) : Type 0 where
  pub place : ℕ
  pub inverse : Number
  pub pivot : IsPivot ρ place inverse
  pub grows : LineGrows (scaled_by ρ place inverse).line ⊎ ClearingGrows (scaled_by ρ place inverse) κs

pub record IsEliminated (ρs : List Line) (κs : List Kept) : Type 0 where
  pub is_reduced : IsReduced κs
  pub same : HaveSameSolutions ρs (lines_of κs)
  pub within : (n : ℕ) → Each (IsWithin n) ρs → Each (IsKeptWithin n) κs
  pub calm : GrowsFrom [] ρs → ⊥

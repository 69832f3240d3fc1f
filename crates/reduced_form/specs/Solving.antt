-- Tables of the component lists that classes and rows leave.
--   FitsSet         the table runs through exactly the component lists of a set, each once
--   IsSolution      zero where a class vanishes, else its sign times its representative, and each row adds up to zero
--   line_at, lines_at    rows over the places of the unknowns
-- Source: the definition of a parametrised linear space.
use Rattle.std.specs.Prelude.{◌≡◌, ℕ, ◌<◌, ◌^◌, Bool, List, [], ◌∷◌, length, IsTrue, slice_get, Some, None}
use Rattle.tensor_defs.specs.declared.Sign.{Sign}
use Rattle.tensor_defs.specs.Prelude.{Line, by_place, Each, IsRising, Number, num_zero, Table, AreTerms, IsChoice, alone, value_at, Agree, Index, Tensor}
use Rattle.tensor_defs.specs.Prelude.{component_number, index_of}
use Rattle.sign_moves.specs.declared.classes.Entry.{Entry}
use Rattle.sign_moves.specs.Signs.{signed}
use Rattle.constraint_rows.specs.Prelude.{class_at, row_at, row_sum}
use Rattle.constraint_rows.specs.declared.rows.Part.{Part}

pub record FitsSet (r : ℕ) (Lists : Tensor → Type 0) (before : Index → Index → Bool) (a : Table) : Type 0 where
  pub rising : IsRising before a.free
  pub of_rank : Each (λ c. length c ≡ r) a.free
  pub well_formed : (c : Index) → length c ≡ r →
      AreTerms (a.terms c) × Each (λ t. t.place < length a.free) (a.terms c)
  pub gives : (v : List Number) → IsChoice a v → Lists (value_at a v)
  pub reaches : (t : Tensor) → Lists t → (v : List Number) × IsChoice a v × Agree r (value_at a v) t
  pub once : (v w : List Number) → IsChoice a v → IsChoice a w → Agree r (value_at a v) (value_at a w) → v ≡ w
  pub own : (k : ℕ) (c : Index) → slice_get a.free k ≡ Some c → a.terms c ≡ alone k ∷ []
  pub earlier : (c d : Index) → length c ≡ r →
      Each (λ t. slice_get a.free t.place ≡ Some d → ¬ IsTrue (before c d)) (a.terms c)

pub record IsSolution (r : ℕ) (es : List Entry) (rows : List (List Part)) (t : Tensor) : Type 0 where
  pub none : (c : ℕ) → c < 3 ^ r → class_at es c ≡ None → t (index_of r c) ≡ num_zero
  pub some : (c d : ℕ) (s : Sign) → c < 3 ^ r → class_at es c ≡ Some (d, s) →
      t (index_of r c) ≡ signed s (t (index_of r d))
  pub sums : Each (λ ps. row_sum r ps t ≡ num_zero) rows

-- a row by the places of the unknowns
abbrev pub line_at : List Index → List Part → Line
line_at us ps = by_place us (λ u. row_at ps (component_number u))

abbrev pub lines_at : List Index → List (List Part) → List Line
lines_at us [] = []
lines_at us (ps ∷ rows) = line_at us ps ∷ lines_at us rows

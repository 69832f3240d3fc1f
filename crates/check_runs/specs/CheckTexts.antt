-- The text of the answer.
--   IsVerdictText   yes, or the first fact that refutes the tensor
--   IsWholeOf       the group of the axes of a group: cubic where all its elements are plain
--   check_line, stabiliser_line    the two lines
--   IsCheckText     the two lines for a group, a symbol and a tensor
-- Source: this project's own.
use Rattle.std.specs.Prelude.{◌≡◌, ◌⊎◌, ℕ, ◌^◌, List, [], ◌∷◌, ◌++◌, codes, length, Option}
use Rattle.std.specs.Fmt.{decimal}
use Rattle.tensor_defs.specs.Prelude.{AllOf, IsPlain, JahnSymbol, IsInvariant, rank, IsListing, IsNameOf, Operation, comes_before, GroupSymbol, Tensor}
use Rattle.tensor_defs.specs.Prelude.{index_of}
use Rattle.text_defs.specs.Prelude.{component_name, line_of, name_text, group_text, jahn_text}
use Rattle.magnetic_groups.specs.Sets.{In}
use Rattle.given_tensors.specs.Stabilisers.{Stabilises}
use Rattle.given_tensors.specs.Verdicts.{IsFirstBroken, IsRefuting}
use Rattle.given_tensors.specs.Wholes.{whole_symbol}
use Rattle.given_tensors.specs.declared.wholes.Whole.{Whole}
use Rattle.given_tensors.specs.declared.wholes.Whole.TheVariants.{Cubic, Hexagonal}

-- the words that tell the verdict
abbrev pub IsVerdictText : JahnSymbol → List Operation → Tensor → List (List ℕ) → Type 0
IsVerdictText j hs t words =
    (IsInvariant j (In hs) t × (words ≡ codes "yes" ∷ []))
    ⊎ ((c : ℕ) × IsFirstBroken j (rank j) (3 ^ rank j) t c
    × (words ≡ codes "no" ∷ codes "symmetry" ∷ component_name (index_of (rank j) c) ∷ []))
    ⊎ ((place : ℕ) × (c : ℕ) × IsRefuting j hs (rank j) (3 ^ rank j) t place c
    × (words ≡ codes "no" ∷ codes "element" ∷ decimal place ∷ component_name (index_of (rank j) c) ∷ []))

abbrev pub IsWholeOf : List Operation → Whole → Type 0
IsWholeOf hs Cubic = AllOf (In hs) IsPlain
IsWholeOf hs Hexagonal = ¬ AllOf (In hs) IsPlain

abbrev pub check_line : GroupSymbol → JahnSymbol → List (List ℕ) → List ℕ
check_line g j verdict = line_of (codes "check" ∷ group_text g ∷ jahn_text j ∷ verdict)

abbrev pub stabiliser_line : Whole → Option GroupSymbol → ℕ → List ℕ
stabiliser_line whole name order =
    line_of (codes "stabiliser" ∷ group_text (whole_symbol whole) ∷ name_text name ∷ codes "order" ∷ decimal order ∷ [])

-- hs are the elements of the group
pub record IsCheckText (g : GroupSymbol) (j : JahnSymbol) (hs : List Operation) (t : Tensor) (text : List ℕ) : Type 0 where
  pub verdict : List (List ℕ)
  pub told : IsVerdictText j hs t verdict
  pub whole : Whole
  pub axes : IsWholeOf hs whole
  pub kept : List Operation
  pub stabiliser : IsListing comes_before (Stabilises whole j.marks (rank j) t) kept
  pub name : Option GroupSymbol
  pub named : IsNameOf name (In kept)
  pub text_is : text ≡ check_line g j verdict ++ stabiliser_line whole name (length kept)

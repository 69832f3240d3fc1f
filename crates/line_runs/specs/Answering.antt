-- How one line is answered, and its format.
--   Ends            a list grew by the answer of the line, and the end tells whether it is passed or refused
--   IsQuick         the answer of the line needs no memory beyond the room that is taken before the first read
--   AreQuick        so does that of each of some lines that are numbered from a number
--   Appends         a list grew by the answer of a line, of which these bytes are at hand
--   IsTold          the format of an input, told at a line: at the first one by its bytes, later as before
-- Source: this project's own.
use Rattle.std.specs.Prelude.{◌≡◌, ◌≢◌, ◌⊎◌, ◌↔◌, ℕ, Bool, ◌+◌, List, [], ◌∷◌, ◌++◌}
use Rattle.text_defs.specs.declared.Format.{Format}
use Rattle.text_defs.specs.Prelude.{IsPassed, IsRefused, Refuses, IsAnswer, format_told}
use Rattle.text_defs.specs.Refusals.RefusalWord.{Long, Syntax}
use Rattle.line_runs.specs.Reads.{Stands}
use Rattle.line_runs.specs.declared.lines.LineEnd.{LineEnd}
use Rattle.line_runs.specs.declared.lines.LineEnd.TheVariants.{Empty, Refused}

pub record Ends (format : Format) (number : ℕ) (line old new : List ℕ) (end : LineEnd) : Type 0 where
  pub answer : List ℕ
  pub is_answer : IsAnswer format number line answer
  pub grown : new ≡ old ++ answer
  pub refused : (end ≡ Refused) ↔ IsRefused format number line
  pub passed : (end ≡ Empty) ↔ IsPassed format number line

abbrev pub IsQuick : Format → ℕ → List ℕ → Type 0
IsQuick format number line =
    IsPassed format number line
    ⊎ ((column : ℕ) × (Refuses format line Long column ⊎ Refuses format line Syntax column))

abbrev pub AreQuick : Format → ℕ → List (List ℕ) → Type 0
AreQuick format number [] = Unit {0}
AreQuick format number (l ∷ ls) = IsQuick format number l × AreQuick format (number + 1) ls

pub record Appends (format : Format) (number : ℕ) (is_long : Bool) (held old new : List ℕ) : Type 0 where
  pub answer : List ℕ
  pub grown : new ≡ old ++ answer
  pub is_answer : (line : List ℕ) → Stands is_long held line → IsAnswer format number line answer

abbrev pub IsTold : ℕ → Format → List ℕ → Format → Type 0
IsTold number before line format =
    ((number ≡ 1) × (format ≡ format_told (line ∷ []))) ⊎ ((number ≢ 1) × (format ≡ before))

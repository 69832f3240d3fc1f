-- The lines of an input, its format, and the answers of its lines.
--   lines_of        each LF ends a line, and what follows the last LF is a line too where it isn't empty
--   whole_lines     the lines whose LF is there
--   format_of       the format of an input: 2 where its first line says so, else 1
--   AreAnswers      the answers of lines that are numbered from a number, joined in order
--   AreAnswersOf    the answers of all lines of an input, in its format
--   HasRefused      some of the lines that are numbered from a number is refused
-- Source: this project's own.
use Rattle.std.specs.Prelude.{◌≡◌, ◌⊎◌, ℕ, ◌+◌, ◌==◌, List, [], ◌∷◌, ◌++◌, if◌then◌else◌, cond}
use Rattle.std.specs.List.{flat_map}
use Rattle.tensor_defs.specs.Lists.{same_numbers_in}
use Rattle.text_defs.specs.declared.Format.{Format}
use Rattle.text_defs.specs.declared.Format.TheVariants.{One, Two}
use Rattle.text_defs.specs.Refusals.{heading, IsRefused}
use Rattle.text_defs.specs.Answers.{IsAnswer}

-- a byte in front of the first line
abbrev pub onto_first : ℕ → List (List ℕ) → List (List ℕ)
onto_first b [] = (b ∷ []) ∷ []
onto_first b (l ∷ ls) = (b ∷ l) ∷ ls

abbrev pub lines_of : List ℕ → List (List ℕ)
lines_of [] = []
lines_of (b ∷ bs) = if b == 10 then [] ∷ lines_of bs else onto_first b (lines_of bs)

-- a byte in front of the first of these whole lines, if there is one
abbrev pub onto_whole : ℕ → List (List ℕ) → List (List ℕ)
onto_whole b [] = []
onto_whole b (l ∷ ls) = (b ∷ l) ∷ ls

abbrev pub whole_lines : List ℕ → List (List ℕ)
whole_lines [] = []
whole_lines (b ∷ bs) = if b == 10 then [] ∷ whole_lines bs else onto_whole b (whole_lines bs)

-- these lines, each with its LF
abbrev pub ended : List (List ℕ) → List ℕ
ended ls = flat_map (λ l. l ++ 10 ∷ []) ls

-- the format that the first of these lines tells
abbrev pub format_told : List (List ℕ) → Format
format_told [] = One
format_told (l ∷ ls) = cond (same_numbers_in l heading) Two One

abbrev pub format_of : List ℕ → Format
format_of input = format_told (lines_of input)

abbrev pub AreAnswers : Format → ℕ → List (List ℕ) → List ℕ → Type 0
AreAnswers format number [] bytes = bytes ≡ []
AreAnswers format number (l ∷ ls) bytes =
    (first : List ℕ) × (rest : List ℕ) × IsAnswer format number l first × AreAnswers format (number + 1) ls rest
    × (bytes ≡ first ++ rest)

-- the bytes are the answers of an input
abbrev pub AreAnswersOf : List ℕ → List ℕ → Type 0
AreAnswersOf input bytes = AreAnswers (format_of input) 1 (lines_of input) bytes

abbrev pub HasRefused : Format → ℕ → List (List ℕ) → Type 0
HasRefused format number [] = ⊥
HasRefused format number (l ∷ ls) = IsRefused format number l ⊎ HasRefused format (number + 1) ls

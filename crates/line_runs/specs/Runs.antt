-- What a run leaves, by its outcome. `left` is what the source tells at return; `before` and `now` are what the
-- sink tells at entry and at return.
--   Answers         what was written grew by exactly the answers of these lines
--   IsAnswered      the input was read to its end, and every line was answered
--   StopsReading, StopsWriting, PassesLimit, LacksMemory    what stands after the other outcomes
--   Leaves          what a run leaves at each outcome
--   IsComplete      the outcomes that an input can have where nothing failed
-- Source: this project's own.
use Rattle.std.specs.Prelude.{◌≡◌, ℕ, ◌+◌, ◌<◌, ◌≤◌, List, [], ◌∷◌, ◌++◌, length, take, Some}
use Rattle.std.specs.Io.KnownBytes.{Consumes}
use Rattle.std.specs.declared.option.Option.{Option}
use Rattle.tensor_ports.specs.Bytes.{Grows}
use Rattle.text_defs.specs.Prelude.{lines_of, whole_lines, ended, format_of, AreAnswers, HasRefused, IsAnswer}
use Rattle.text_defs.specs.declared.Format.{Format}
use Rattle.line_runs.specs.Answering.{AreQuick}
use Rattle.line_runs.specs.declared.outcome.Outcome.{Outcome}
use Rattle.line_runs.specs.declared.outcome.Outcome.TheVariants.{Answered, SomeRefused, Usage, ReadFault}
use Rattle.line_runs.specs.declared.outcome.Outcome.TheVariants.{WriteFault, NoMemory, InputLimit}

-- the first of the lines is line 1
abbrev pub Answers : Format → Option (List ℕ) → Option (List ℕ) → List (List ℕ) → Type 0
Answers format before now lines = (out : List ℕ) × AreAnswers format 1 lines out × Grows before now out

abbrev pub SomeLineRefused : Format → List (List ℕ) → Type 0
SomeLineRefused format lines = HasRefused format 1 lines

abbrev pub NoLineRefused : Format → List (List ℕ) → Type 0
NoLineRefused format lines = HasRefused format 1 lines → ⊥

-- the input was read to its end, every line was answered, and the lines are such
pub record IsAnswered
    (limit : ℕ) (input : List ℕ) (left before now : Option (List ℕ)) (Lines : Format → List (List ℕ) → Type 0) : Type 0 where
  pub within : length input ≤ limit
  pub all : left ≡ Some []
  pub answers : Answers (format_of input) before now (lines_of input)
  pub lines : Lines (format_of input) (lines_of input)

-- after a read fault: the whole lines among the bytes that were taken were answered
pub record StopsReading (input : List ℕ) (left before now : Option (List ℕ)) : Type 0 where
  pub taken : List ℕ
  pub consumed : Consumes (Some input) left taken
  pub answers : Answers (format_of input) before now (whole_lines taken)

-- after a write fault
pub record StopsWriting (input : List ℕ) (left before now : Option (List ℕ)) : Type 0 where
  -- the lines that were answered whole, the next one and the others
  pub whole : List (List ℕ)
  pub line : List ℕ
  pub more : List (List ℕ)
  pub split : lines_of input ≡ whole ++ line ∷ more
  -- what was written is their answers, and a front of the next answer that isn't all of it
  pub out : List ℕ
  pub answer : List ℕ
  pub answers : AreAnswers (format_of input) 1 whole out
  pub next : IsAnswer (format_of input) (length whole + 1) line answer
  pub count : ℕ
  pub part : count < length answer
  pub grown : Grows before now (out ++ take count answer)
  -- at most 4001 bytes were taken past the end of that line
  pub taken : List ℕ
  pub consumed : Consumes (Some input) left taken
  pub bound : length taken ≤ length (ended (whole ++ line ∷ [])) + 4001

-- past the limit: one byte more was taken, and the whole lines among the first bytes were answered
pub record PassesLimit (limit : ℕ) (input : List ℕ) (left before now : Option (List ℕ)) : Type 0 where
  pub past : limit < length input
  pub consumed : Consumes (Some input) left (take (limit + 1) input)
  pub answers : Answers (format_of input) before now (whole_lines (take limit input))

-- for want of memory: some of the first lines were answered; where no answer needs memory, nothing was read
pub record LacksMemory (input : List ℕ) (left before now : Option (List ℕ)) : Type 0 where
  pub count : ℕ
  pub answers : Answers (format_of input) before now (take count (lines_of input))
  pub early : AreQuick (format_of input) 1 (lines_of input) → left ≡ Some input

abbrev pub Leaves : ℕ → Outcome → List ℕ → Option (List ℕ) → Option (List ℕ) → Option (List ℕ) → Type 0
Leaves limit Answered input left before now = IsAnswered limit input left before now NoLineRefused
Leaves limit SomeRefused input left before now = IsAnswered limit input left before now SomeLineRefused
Leaves limit Usage input left before now = ⊥
Leaves limit ReadFault input left before now = StopsReading input left before now
Leaves limit WriteFault input left before now = StopsWriting input left before now
Leaves limit NoMemory input left before now = LacksMemory input left before now
Leaves limit InputLimit input left before now = PassesLimit limit input left before now

-- answers or want of memory for an input within the limit, and the limit or want of memory for a longer one
abbrev pub IsComplete : Outcome → ℕ → List ℕ → Type 0
IsComplete Answered limit input = length input ≤ limit
IsComplete SomeRefused limit input = length input ≤ limit
IsComplete NoMemory limit input = Unit {0}
IsComplete InputLimit limit input = limit < length input
IsComplete _ limit input = ⊥

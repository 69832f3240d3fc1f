-- How the words are settled.
--   given_by, given_by_all    what a setting gives; what each of a list gives
--   ReadsSetting    what a word gives, or where it goes wrong
--   IsStop          the refusal applies; want of memory is free
--   IsAnswered      the text answers the words, and no refusal applies
--   IsStopOf        a stop by a refusal that a fact speaks of
--   IsTwiceStop     the refusal of numbers of which one comes again
--   IsGrownStop     the refusal of an action that grows
--   IsAnsweredGiven, IsStopGiven    the same of what the later words give
--   IsGrownGiven    the refusal of a tensor whose check or stabiliser grows
-- Source: this project's own.
use Rattle.std.specs.Prelude.{◌≡◌, ◌+◌, List, ℕ, map, Result, Ok, Err}
use Rattle.tensor_defs.specs.Prelude.{JahnSymbol, Operation, GroupSymbol, Tensor}
use Rattle.text_defs.specs.Languages.{IsFaulty}
use Rattle.text_defs.specs.declared.Fault.{Fault}
use Rattle.root3_num.specs.Roots.{value_of_root}
use Rattle.tensor_action.specs.declared.faults.ActFault.{ActFault}
use Rattle.tensor_action.specs.declared.faults.ActFault.TheVariants.{TooLarge}
use Rattle.tool_runs.specs.Tools.{Words}
use Rattle.tool_runs.specs.declared.refusals.RefusalName.{RefusalName}
use Rattle.tool_runs.specs.declared.refusals.RefusalName.TheVariants as Name
use Rattle.tool_runs.specs.declared.refusals.ToolRefusal.{ToolRefusal}
use Rattle.check_runs.specs.CheckWords.{Answers, AnswersGiven, Grows, Refuses, RefusesGiven}
use Rattle.check_runs.specs.Settings.{Given, IsFirstTwice, IsSetting, Sets}
use Rattle.check_runs.specs.declared.settings.Setting.{Setting}
use Rattle.check_runs.specs.declared.stops.Stop.{Stop}
use Rattle.check_runs.specs.declared.stops.Stop.TheVariants.{Refused, NoMemory}

abbrev pub given_by : Setting → Given
given_by s = record { component = s.component; number = value_of_root s.number }

abbrev pub given_by_all : List Setting → List Given
given_by_all settings = map given_by settings

abbrev pub ReadsSetting : ℕ → List ℕ → Result Setting Fault → Type 0
ReadsSetting r word (Ok s) = Sets r word (given_by s)
ReadsSetting r word (Err f) = IsFaulty (IsSetting r) word f.place

abbrev pub IsStopOf : (RefusalName → ℕ → ℕ → Type 0) → Stop → Type 0
IsStopOf Applies (Refused r) = Applies r.name r.word r.column
IsStopOf Applies NoMemory = Unit {0}

abbrev pub IsTwiceStop : List Given → Stop → Type 0
IsTwiceStop ps stop =
    IsStopOf (λ name number column. (k : ℕ) × IsFirstTwice ps k × (name ≡ Name.Twice) × (number ≡ k + 3) × (column ≡ 1)) stop

abbrev pub IsGrownStop : ActFault → Stop → Type 0
IsGrownStop fault stop =
    IsStopOf (λ name number column. (fault ≡ TooLarge) × (name ≡ Name.TooLarge) × (number ≡ 2) × (column ≡ 1)) stop

-- the refusal of a tensor that grows
abbrev pub IsGrownGiven : JahnSymbol → List Operation → Tensor → Stop → Type 0
IsGrownGiven j hs t stop =
    IsStopOf (λ name number column. Grows j hs t × (name ≡ Name.TooLarge) × (number ≡ 2) × (column ≡ 1)) stop

abbrev pub IsStop : Words → Stop → Type 0
IsStop words (Refused r) = Refuses words r
IsStop words NoMemory = Unit {0}

abbrev pub IsStopGiven : GroupSymbol → JahnSymbol → Words → Stop → Type 0
IsStopGiven g j later stop = IsStopOf (λ name number column. RefusesGiven name g j later number column) stop

abbrev pub IsAnsweredGiven : GroupSymbol → JahnSymbol → Words → List ℕ → Type 0
IsAnsweredGiven g j later text =
    ((name : RefusalName) (number column : ℕ) → RefusesGiven name g j later number column → ⊥) × AnswersGiven g j later text

abbrev pub IsAnswered : Words → List ℕ → Type 0
IsAnswered words text = ((r : ToolRefusal) → Refuses words r → ⊥) × Answers words text

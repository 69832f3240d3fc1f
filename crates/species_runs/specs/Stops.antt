-- How the words are settled.
--   IsPairAnswered, IsPairStop    the text answers two accepted symbols, and no refusal of theirs applies; or the refusal applies
--   IsAnswered, IsStop    the same for the words; want of memory is free
-- Source: this project's own.
use Rattle.std.specs.Prelude.{List, ℕ}
use Rattle.tensor_defs.specs.Symbols.{GroupSymbol}
use Rattle.tool_runs.specs.Tools.{Words}
use Rattle.tool_runs.specs.declared.refusals.RefusalName.{RefusalName}
use Rattle.tool_runs.specs.declared.refusals.ToolRefusal.{ToolRefusal}
use Rattle.species_runs.specs.SpeciesWords.{Answers, IsSpeciesText, Refuses, RefusesPair}
use Rattle.species_runs.specs.declared.answers.NoText.{NoText}
use Rattle.species_runs.specs.declared.answers.NoText.TheVariants as NoText
use Rattle.species_runs.specs.declared.runs.Stop.{Stop}
use Rattle.species_runs.specs.declared.runs.Stop.TheVariants.{Refused, NoMemory}

abbrev pub IsPairAnswered : GroupSymbol → GroupSymbol → List ℕ → Type 0
IsPairAnswered g f text = ((name : RefusalName) → ¬ RefusesPair g f name) × IsSpeciesText g f text

abbrev pub IsPairStop : GroupSymbol → GroupSymbol → NoText → Type 0
IsPairStop g f (NoText.Refused name) = RefusesPair g f name
IsPairStop g f NoText.NoMemory = Unit {0}

abbrev pub IsAnswered : Words → List ℕ → Type 0
IsAnswered words text = ((r : ToolRefusal) → Refuses words r → ⊥) × Answers words text

abbrev pub IsStop : Words → Stop → Type 0
IsStop words (Refused r) = Refuses words r
IsStop words NoMemory = Unit {0}

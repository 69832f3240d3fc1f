-- How the words are settled.
--   IsAnswered      the text answers the words, and no refusal applies
--   IsStop          the refusal applies; want of memory is free
-- Source: this project's own.
use Rattle.std.specs.Prelude.{List, ℕ}
use Rattle.tool_runs.specs.Tools.{Words}
use Rattle.tool_runs.specs.declared.refusals.ToolRefusal.{ToolRefusal}
use Rattle.curie_runs.specs.CurieWords.{Answers, Refuses}
use Rattle.curie_runs.specs.declared.runs.Stop.{Stop}
use Rattle.curie_runs.specs.declared.runs.Stop.TheVariants.{Refused, NoMemory}

abbrev pub IsAnswered : Words → List ℕ → Type 0
IsAnswered words text = ((r : ToolRefusal) → Refuses words r → ⊥) × Answers words text

abbrev pub IsStop : Words → Stop → Type 0
IsStop words (Refused r) = Refuses words r
IsStop words NoMemory = Unit {0}

-- Words to which no refusal applies.
--   NoneApplies     of refusals by name, number of a word and column, none applies to these words
--   none_refuses    then none refuses them
use Rattle.std.proofs.Common.{ℕ}
use Rattle.tool_runs.specs.Tools.{Words}
use Rattle.tool_runs.specs.declared.refusals.RefusalName.{RefusalName}
use Rattle.tool_runs.specs.declared.refusals.ToolRefusal.{ToolRefusal}

abbrev pub NoneApplies : (RefusalName → Words → ℕ → ℕ → Type 0) → Words → Type 0
NoneApplies Applies words = (name : RefusalName) (number column : ℕ) → Applies name words number column → ⊥

pub none_refuses : (Applies : RefusalName → Words → ℕ → ℕ → Type 0) (words : Words) → NoneApplies Applies words →
    (r : ToolRefusal) → Applies r.name words r.word r.column → ⊥
none_refuses Applies words none r h = none r.name r.word r.column h

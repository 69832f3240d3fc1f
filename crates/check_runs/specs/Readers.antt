-- What the readers of a word tell.
--   TellsAxis       the axis whose digit stands at a place, by its place from 0
--   IsNamed         the word begins with the name of a component, and =
--   ReadsComponent  the component, or where the word goes wrong
use Rattle.std.specs.Prelude.{◌≡◌, ℕ, ◌+◌, ◌<◌, ◌^◌, List, ◌∷◌, ◌++◌, drop, Option, Some, None, Result, Ok, Err}
use Rattle.tensor_defs.specs.Prelude.{Axis, axis_place, digit, index_of}
use Rattle.text_defs.specs.Prelude.{component_name, IsFaulty}
use Rattle.text_defs.specs.declared.Fault.{Fault}
use Rattle.number_words.specs.Runs.{IsAt}
use Rattle.check_runs.specs.Settings.{IsSetting}

abbrev pub TellsAxis : List ℕ → ℕ → Option ℕ → Type 0
TellsAxis word place (Some d) = (i : Axis) × IsAt word place (48 + digit i) × (d ≡ axis_place i)
TellsAxis word place None = (i : Axis) → IsAt word place (48 + digit i) → ⊥

pub record IsNamed (r : ℕ) (word : List ℕ) (c : ℕ) : Type 0 where
  pub below : c < 3 ^ r
  pub word_is : word ≡ component_name (index_of r c) ++ 61 ∷ drop (r + 2) word

abbrev pub ReadsComponent : ℕ → List ℕ → Result ℕ Fault → Type 0
ReadsComponent r word (Ok c) = IsNamed r word c
ReadsComponent r word (Err f) = IsFaulty (IsSetting r) word f.place

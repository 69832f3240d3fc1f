-- What the public functions on group symbols answer.
--   symbol_of     the symbol of a parent, primes, a grey suffix and a setting
--   ReadsGroup    the symbol that the whole word spells, or else the place at which the word goes wrong
-- Source: this project's own, over the texts of group symbols.
use Rattle.std.specs.Prelude.{ℕ, Bool, List, Result, Ok, Err}
use Rattle.tensor_defs.specs.Symbols.{GroupSymbol}
use Rattle.tensor_defs.specs.declared.Setting.{Setting}
use Rattle.text_defs.specs.Prelude.{SpellsGroup, IsGroupText, IsFaulty}
use Rattle.text_defs.specs.declared.Fault.{Fault}

abbrev pub symbol_of : ℕ → ℕ → Bool → Setting → GroupSymbol
symbol_of parent primes grey setting =
    record { parent = parent; primes = primes; grey = grey; setting = setting }

abbrev pub ReadsGroup : List ℕ → Result GroupSymbol Fault → Type 0
ReadsGroup word (Ok t) = SpellsGroup word t
ReadsGroup word (Err f) = IsFaulty IsGroupText word f.place

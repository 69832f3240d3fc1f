-- The words that name a group symbol, in one of three dialects.
--   Names           a word spells a symbol, is its long text, or is a name after Schoenflies that is read as it
--   IsDialectText   it names some symbol
-- Source: this project's own.
use Rattle.std.specs.Prelude.{◌⊎◌, ℕ, List}
use Rattle.tensor_defs.specs.Symbols.{GroupSymbol}
use Rattle.text_defs.specs.GroupTexts.{SpellsGroup}
use Rattle.dialects.specs.ClassNames.{IsReadName}
use Rattle.dialects.specs.LongTexts.{IsLongText}

abbrev pub Names : List ℕ → GroupSymbol → Type 0
Names word t = SpellsGroup word t ⊎ IsLongText word t ⊎ IsReadName word t

abbrev pub IsDialectText : List ℕ → Type 0
IsDialectText word = (t : GroupSymbol) × Names word t

-- A law of the texts of numbers.
--   OneNumber       no text stands for two numbers
use Rattle.std.specs.Prelude.{◌≡◌, ℕ, List}
use Rattle.tensor_defs.specs.Number.{Number}
use Rattle.number_words.specs.NumberWords.{SpellsNumber}

abbrev pub OneNumber : Type 0
OneNumber = (word : List ℕ) (x y : Number) → SpellsNumber word x → SpellsNumber word y → x ≡ y

-- Laws of the texts that are written.
--   WrittenIsSpelled    the text that is written for a symbol spells it
use Rattle.tensor_defs.specs.Jahn.{JahnSymbol, IsJahnSymbol}
use Rattle.text_defs.specs.JahnTexts.{SpellsJahn, jahn_text}

abbrev pub WrittenIsSpelled : Type 0
WrittenIsSpelled = (j : JahnSymbol) → IsJahnSymbol j → SpellsJahn (jahn_text j) j

-- Laws of the texts of group symbols.
--   WrittenTextSpells       the text that is written for a symbol spells it
--   WrittenTextReadsBack    a reader that answers as it should reads that text as the symbol
use Rattle.std.specs.Prelude.{◌≡◌, Result, Ok}
use Rattle.tensor_defs.specs.Symbols.{GroupSymbol, IsGroupSymbol}
use Rattle.text_defs.specs.GroupTexts.{SpellsGroup, group_text}
use Rattle.text_defs.specs.declared.Fault.{Fault}
use Rattle.group_symbol.specs.Readings.{ReadsGroup}

abbrev pub WrittenTextSpells : Type 0
WrittenTextSpells = (t : GroupSymbol) → IsGroupSymbol t → SpellsGroup (group_text t) t

abbrev pub WrittenTextReadsBack : Type 0
WrittenTextReadsBack =
    (t : GroupSymbol) (r : Result GroupSymbol Fault) → IsGroupSymbol t → ReadsGroup (group_text t) r → r ≡ Ok t

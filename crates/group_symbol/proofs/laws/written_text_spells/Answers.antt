use Rattle.group_symbol.proofs.WrittenTexts.{written_spells}
use Rattle.group_symbol.proofs.laws.written_text_spells.Goals as goal

pub returns : goal.returns
returns c = written_spells

use Rattle.group_symbol.proofs.WrittenTexts.{reads_back}
use Rattle.group_symbol.proofs.laws.written_text_reads_back.Goals as goal

pub returns : goal.returns
returns c = reads_back

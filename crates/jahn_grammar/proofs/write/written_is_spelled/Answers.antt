use Rattle.jahn_grammar.proofs.Written as law
use Rattle.jahn_grammar.proofs.write.written_is_spelled.Goals as goal

pub returns : goal.returns
returns c = law.written_is_spelled

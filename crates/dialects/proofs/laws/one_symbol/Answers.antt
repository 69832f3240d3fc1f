use Rattle.dialects.proofs.OneSymbol.{no_two}
use Rattle.dialects.proofs.laws.one_symbol.Goals as goal

pub returns : goal.returns
returns c = no_two

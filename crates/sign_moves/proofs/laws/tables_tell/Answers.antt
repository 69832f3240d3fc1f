use Rattle.sign_moves.proofs.FirstLaws.{tables_tell}
use Rattle.sign_moves.proofs.laws.tables_tell.Goals as goal

pub returns : goal.returns
returns c = tables_tell

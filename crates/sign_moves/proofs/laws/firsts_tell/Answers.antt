use Rattle.sign_moves.proofs.FirstLaws.{firsts_tell}
use Rattle.sign_moves.proofs.laws.firsts_tell.Goals as goal

pub returns : goal.returns
returns c = firsts_tell

use Rattle.sign_moves.proofs.JoinedLaws.{joined_tell}
use Rattle.sign_moves.proofs.laws.joined_tell.Goals as goal

pub returns : goal.returns
returns c = joined_tell

use Rattle.limiting_laws.proofs.Groups.{diagonals_accepted_lem}
use Rattle.limiting_laws.proofs.diagonals_accepted.Goals as goal

pub returns : goal.returns
returns c = diagonals_accepted_lem

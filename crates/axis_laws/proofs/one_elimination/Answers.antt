use Rattle.axis_laws.proofs.OneCarrier.{one_elimination_lem}
use Rattle.axis_laws.proofs.one_elimination.Goals as goal

pub returns : goal.returns
returns c = one_elimination_lem

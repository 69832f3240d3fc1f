use Rattle.outcome_laws.proofs.Unique.{one_outcome_lem}
use Rattle.outcome_laws.proofs.one_outcome.Goals as goal

pub returns : goal.returns
returns c = one_outcome_lem

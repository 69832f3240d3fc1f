use Rattle.tensor_action.proofs.FactorLaws.{nothing_is}
use Rattle.tensor_action.proofs.products.nothing.Goals as goal

pub returns-clause-value : goal.returns-clause-value
returns-clause-value c = nothing_is

use Rattle.tensor_action.proofs.FactorLaws.{one_is}
use Rattle.tensor_action.proofs.products.one.Goals as goal

pub returns-clause-value : goal.returns-clause-value
returns-clause-value c = one_is

use Rattle.tensor_action.proofs.FactorLaws.{halved_is}
use Rattle.tensor_action.proofs.products.halved.Goals as goal

pub returns-clause-value : goal.returns-clause-value
returns-clause-value c = let p = c.args.product in halved_is p.sign p.rational p.root p.below c.requires.positive

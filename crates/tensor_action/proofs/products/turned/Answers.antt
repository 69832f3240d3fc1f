use Rattle.tensor_action.proofs.FactorLaws.{turned_is}
use Rattle.tensor_action.proofs.products.turned.Goals as goal

pub returns-clause-value : goal.returns-clause-value
returns-clause-value c = let p = c.args.product in turned_is p.sign p.rational p.root p.below c.requires.positive

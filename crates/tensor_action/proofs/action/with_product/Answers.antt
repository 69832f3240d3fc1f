use Rattle.tensor_action.proofs.SumLaws.{adds-sum}
use Rattle.tensor_action.proofs.action.with_product.Goals as goal

pub returns : goal.returns
returns c =
    adds-sum _ _ _ c.in_ok-part.part c.add.result c.in_ok-part.ensures.0 c.in_ok-part.ensures.1 c.add.ensures

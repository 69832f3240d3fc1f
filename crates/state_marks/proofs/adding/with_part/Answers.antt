use Rattle.tensor_action.proofs.SumLaws.{adds-sum}
use Rattle.state_marks.proofs.Parts.{adds-first}
use Rattle.state_marks.proofs.adding.with_part.Goals as goal

pub returns-then-is_zero : goal.returns-then-is_zero
returns-then-is_zero c = adds-first _ _ _ c.in_ok-part.part (c.is_zero.ensures.0 c.if-is_zero.true) c.in_ok-part.ensures

pub returns : goal.returns
returns c =
    adds-sum _ _ _ c.in_ok-part.part c.add.result c.in_ok-part.ensures.0 c.in_ok-part.ensures.1 c.add.ensures

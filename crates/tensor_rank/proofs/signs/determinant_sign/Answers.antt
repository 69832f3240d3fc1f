use Rattle.tensor_rank.proofs.DeterminantLaws.{determinant_minus, determinant_plus}
use Rattle.tensor_rank.proofs.signs.determinant_sign.Goals as goal

pub returns-then-det-lt0 : goal.returns-then-det-lt0
returns-then-det-lt0 c =
    determinant_minus c.args.op.now c.place-place.result c.det.result c.place-place.ensures.below c.place-place.ensures.at
    c.det.ensures c.if-det-lt0.true

pub returns-else-det-lt0 : goal.returns-else-det-lt0
returns-else-det-lt0 c =
    determinant_plus c.args.op.now c.place-place.result c.det.result c.place-place.ensures.below c.place-place.ensures.at
    c.det.ensures c.if-det-lt0.false

use Rattle.std.proofs.Common.{sym, ◌∙◌}
use Rattle.tensor_defs.specs.OperationOrder.{comes_before}
use Rattle.op_matrix.proofs.Facts.{before_places}
use Rattle.op_matrix.proofs.Op.before.Goals as goal

pub returns : goal.returns
returns c = sym (before_places c.place.result c.place-2.result c.place.ensures.below c.place-2.ensures.below) ∙
    (λ i. comes_before (sym c.place.ensures.at i) (sym c.place-2.ensures.at i))

use Rattle.op_matrix.proofs.Order.{order_is_strict_lem}
use Rattle.op_matrix.proofs.order_is_strict.Goals as goal

pub returns : goal.returns
returns c = order_is_strict_lem

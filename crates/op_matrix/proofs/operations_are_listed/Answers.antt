use Rattle.op_matrix.proofs.Order.{are_listed_lem}
use Rattle.op_matrix.proofs.operations_are_listed.Goals as goal

pub returns : goal.returns
returns c = are_listed_lem

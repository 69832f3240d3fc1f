use Rattle.std.proofs.Common.{refl}
use Rattle.tensor_vectors.specs.Types.{type_orders, crystal_classes}
use Rattle.tensor_vectors.proofs.order_row.Goals as goal

pub returns-clause-row : goal.returns-clause-row
unfolding type_orders crystal_classes
returns-clause-row c = refl

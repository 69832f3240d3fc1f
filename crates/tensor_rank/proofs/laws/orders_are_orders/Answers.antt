use Rattle.tensor_rank.specs.StrictOrders.{orders_are_orders}
use Rattle.tensor_rank.proofs.laws.orders_are_orders.Goals as goal

pub returns : goal.returns
returns c = orders_are_orders

-- The orders of components are strict orders.
--   orders_are_orders    by the index digits, and by blocks
--   orders_strict        the same for components by their numbers
use Rattle.std.specs.Prelude.{◌≡◌, ℕ, Bool, true, false, IsTrue, refl}
use Rattle.tensor_defs.specs.Tensor.{index_of}
use Rattle.tensor_laws.proofs.Prelude.{block_order, index_order}
use Rattle.sign_moves.specs.Firsts.{IsStrict}
use Rattle.tensor_rank.specs.Orders.{Ordering, ByIndex, ByBlocks, before_at, OrdersAreOrders}

pub orders_are_orders : OrdersAreOrders
orders_are_orders r ByIndex = index_order r
orders_are_orders r (ByBlocks bs) = block_order r bs

false_of : (b : Bool) → (IsTrue b → ⊥) → b ≡ false
false_of true h = absurd (h refl)
false_of false h = refl

pub orders_strict : (r : ℕ) (o : Ordering) → IsStrict (before_at r o)
orders_strict r o = record {
  irreflexive = λ c. false_of (before_at r o c c) ((orders_are_orders r o).irreflexive (index_of r c));
  transitive = λ c d e. (orders_are_orders r o).transitive (index_of r c) (index_of r d) (index_of r e);
}

-- What contracts see of an order.
--   ordering_of     the order of the definitions that the code's stands for
--   IsKind          its blocks are together as many indices as the rank has, and components are placed in their order
use Rattle.std.specs.Prelude.{ℕ, ◌≤◌, take}
use Rattle.tensor_rank.specs.declared.orders.Kind.{Kind}
use Rattle.tensor_rank.specs.declared.orders.Kind.TheVariants as kind
use Rattle.tensor_rank.specs.Orders.{Ordering, ByIndex, ByBlocks, AreBlocks, ArePlaced}

abbrev pub ordering_of : Kind → Ordering
ordering_of kind.Index = ByIndex
ordering_of (kind.Blocks sizes count places) = ByBlocks (take count sizes)

abbrev pub IsKind : ℕ → Kind → Type 0
IsKind r kind.Index = Unit {0}
IsKind r (kind.Blocks sizes count places) = (count ≤ 6) × AreBlocks r (take count sizes) × ArePlaced r (take count sizes) places.now

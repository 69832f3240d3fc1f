-- The definitions of this crate that others cite, passed on from one place. Declares nothing.
pub use Rattle.tensor_rank.specs.Carried.{Carried, Exchanges, IsFirstCarried, IsZeroAt, TellsClass, rests, steps}
pub use Rattle.tensor_rank.specs.DigitLaws.{digit_of-number, number_of-below, number_of-digits, number_of-same}
pub use Rattle.tensor_rank.specs.Digits.{digit_of}
unfoldable pub use Rattle.tensor_rank.specs.Digits.{number_of}
pub use Rattle.tensor_rank.specs.ExchangeRows.{IsExchangeRow, exchange_part}
pub use Rattle.tensor_rank.specs.Exchanges.{exchange_moves, partner, sign_of_exchange}
unfoldable pub use Rattle.tensor_rank.specs.Exchanges.{exchanged}
pub use Rattle.tensor_rank.specs.IndexLaws.{component_below_at, digit_index, digit_list, digit_place, index_number_at, index_of_digits, nth, place_below}
pub use Rattle.tensor_rank.specs.Kinds.{ordering_of}
pub use Rattle.tensor_rank.specs.Orders.{AreBlocks, ByBlocks, ByIndex, IsBlock, Ordering, before_at, before_of, front_number, is_by_index, pair_of, spell}
pub use Rattle.tensor_rank.specs.Orders.{spelled_before, total}
pub use Rattle.tensor_rank.specs.ShapeValue.{ShapeValue}
pub use Rattle.tensor_rank.specs.Shapes.{IsFirstBelow, IsShapeOf}
pub use Rattle.tensor_rank.specs.StrictOrders.{orders_are_orders, orders_strict}
pub use Rattle.tensor_rank.specs.Symmetry.{exchange_of, exchanges_of, neighbours}
pub use Rattle.tensor_rank.specs.Within.{AllWithin, IsWithin, exchange_at}

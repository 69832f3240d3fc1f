-- What contracts see of a shape.
--   ShapeValue      the marks of a symbol, and the exchanges of the blocks of its brackets
use Rattle.std.specs.Prelude.{List}
use Rattle.tensor_defs.specs.Tensor.{Marks}
use Rattle.tensor_rank.specs.declared.exchanges.Exchange.{Exchange}

pub record ShapeValue : Type 0 where
  pub marks : Marks
  pub exchanges : List Exchange

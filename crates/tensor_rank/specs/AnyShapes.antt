-- Shapes of any rank.
--   IsAnyShapeOf    the shape of a Jahn symbol, in the variant of its rank
use Rattle.tensor_defs.specs.Jahn.{JahnSymbol}
use Rattle.tensor_rank.specs.declared.symbols.AnyShape.{AnyShape}
use Rattle.tensor_rank.specs.declared.symbols.AnyShape.TheVariants.{Zero, One, Two, Three, Four, Five, Six}
use Rattle.tensor_rank.specs.Shapes.{IsShapeOf}

abbrev pub IsAnyShapeOf : JahnSymbol → AnyShape → Type 0
IsAnyShapeOf j (Zero s) = IsShapeOf j 0 s
IsAnyShapeOf j (One s) = IsShapeOf j 1 s
IsAnyShapeOf j (Two s) = IsShapeOf j 2 s
IsAnyShapeOf j (Three s) = IsShapeOf j 3 s
IsAnyShapeOf j (Four s) = IsShapeOf j 4 s
IsAnyShapeOf j (Five s) = IsShapeOf j 5 s
IsAnyShapeOf j (Six s) = IsShapeOf j 6 s

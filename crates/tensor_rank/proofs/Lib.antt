pub mod OrderLaws
mod PlacedTables
pub mod ExchangeLaws
pub mod ExchangeRowLaws
pub mod NeighbourLaws
pub mod ExchangeIndex
pub mod SymmetryLaws
pub mod ShapeLaws
pub mod FirstLaws
pub mod DeterminantLaws

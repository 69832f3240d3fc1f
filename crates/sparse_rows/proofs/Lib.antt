pub mod Lines
pub mod Pivots
pub mod Merging
pub mod Marking
pub mod RowSteps
pub mod Wholes
pub mod PivotSums

pub mod FactorLaws
pub mod IndexPlaces
pub mod SumLaws
pub mod Reach
mod Between
pub mod Walks
pub mod CarryLaws

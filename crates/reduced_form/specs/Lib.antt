pub mod Forms
pub mod Solving
pub mod Eliminated
pub mod Prelude

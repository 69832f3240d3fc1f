pub mod MatrixAction
pub mod Spins
pub mod Turns
pub mod Groups

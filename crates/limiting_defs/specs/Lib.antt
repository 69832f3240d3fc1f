pub mod Matrices
pub mod Limiting

pub mod Factors
pub mod Reaching
pub mod Acting
pub mod Turns

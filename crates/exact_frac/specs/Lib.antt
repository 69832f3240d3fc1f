pub mod Held
pub mod Exact

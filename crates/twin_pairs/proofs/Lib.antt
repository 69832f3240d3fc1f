pub mod DoubleCosets
pub mod Listings
pub mod Assembly
mod Marking

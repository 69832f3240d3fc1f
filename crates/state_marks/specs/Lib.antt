pub mod Sums
pub mod Told
pub mod Adding
pub mod Alike

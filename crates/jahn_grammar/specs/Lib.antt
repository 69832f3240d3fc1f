pub mod Trees
pub mod Codes
pub mod Symbols
pub mod Views
pub mod Laws

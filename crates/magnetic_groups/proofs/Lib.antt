pub mod Cosets
pub mod Members
pub mod SymbolFrames
pub mod Meeting
mod Held
mod Listings
mod MarkedGroups

pub mod Numbering
pub mod Refusals

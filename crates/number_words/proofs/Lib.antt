pub mod Rests
pub mod Digits
pub mod Quotients
pub mod Languages
pub mod OneNumber

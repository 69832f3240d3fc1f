pub mod LongWords
pub mod Refusing

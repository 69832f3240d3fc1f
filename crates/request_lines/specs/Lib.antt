pub mod Words
pub mod Keywords
pub mod Parts
pub mod Readings

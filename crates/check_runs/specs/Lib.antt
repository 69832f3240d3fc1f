pub mod Settings
pub mod Readers
pub mod CheckTexts
pub mod Lines
pub mod CheckWords
pub mod Stops

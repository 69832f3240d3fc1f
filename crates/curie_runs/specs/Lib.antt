pub mod CurieTexts
pub mod CurieWords
pub mod Stops

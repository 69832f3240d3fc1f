pub mod SpeciesTexts
pub mod SpeciesWords
pub mod Stops

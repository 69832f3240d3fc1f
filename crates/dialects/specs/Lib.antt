pub mod ClassNames
pub mod LongTexts
pub mod Naming
pub mod Tables
pub mod Searches
pub mod Answers
pub mod Laws

mod ClassTexts
pub mod Outside
pub mod SameSets

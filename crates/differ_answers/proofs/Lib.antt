pub mod TextLaws
pub mod Listing
pub mod StateTexts
pub mod FaultLaws
pub mod StandingLaws

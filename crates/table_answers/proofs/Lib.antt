pub mod TableLaws
pub mod Told

pub mod NumberWords
pub mod Runs
pub mod Laws

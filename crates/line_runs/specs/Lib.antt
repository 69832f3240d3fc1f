pub mod Answering
pub mod Outcomes
pub mod Reads
pub mod Runs
pub mod Stops
pub mod Words

pub mod Roots
pub mod Answers

pub mod Marks
pub mod Sets
pub mod Joining
pub mod Greedy
pub mod Prelude

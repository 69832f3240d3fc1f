pub mod Blocks
pub mod Tables
pub mod Weighing
pub mod Texts

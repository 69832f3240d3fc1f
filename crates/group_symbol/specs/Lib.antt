pub mod Readings
pub mod Laws
pub mod Tables
pub mod Parts
pub mod Walks

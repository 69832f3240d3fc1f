pub mod Species
pub mod Told
pub mod Laws

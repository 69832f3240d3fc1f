pub mod Places
pub mod Furthest

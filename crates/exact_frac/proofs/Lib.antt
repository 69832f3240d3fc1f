pub mod Overs
pub mod Divisors
pub mod Signs
pub mod Wide
pub mod Parts
pub mod Texts

pub mod Requests
pub mod Outcomes
pub mod Summary
pub mod Runs
pub mod Told
pub mod Laws

pub mod Lists
pub mod Verdicts
pub mod Wholes
pub mod Stabilisers
pub mod Grown
pub mod Carried

pub mod Signed
pub mod Symmetric
pub mod Kept
pub mod Judged
pub mod Alike

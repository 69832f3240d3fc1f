pub mod RootParts
pub mod Lowering
pub mod Steps

pub mod NameLaws
pub mod Refusing

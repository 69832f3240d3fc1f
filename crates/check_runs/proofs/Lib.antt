pub mod Names
pub mod Gathered
pub mod Tensors
pub mod Lines
pub mod Refusing

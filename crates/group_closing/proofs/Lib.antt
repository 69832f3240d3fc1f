pub mod Reaching
pub mod Marked
pub mod Inverses
pub mod Spans
mod Digits
mod Doubling
mod Taking
mod CosetClosing

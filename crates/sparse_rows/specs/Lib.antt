pub mod Solutions
pub mod Rows
pub mod Marks
pub mod KeptRows
pub mod WholeRows
pub mod Sums
pub mod Prelude

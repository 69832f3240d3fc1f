pub mod AxisForms
pub mod ToldLaws
pub mod Sums
pub mod Systems
pub mod Numbering
pub mod FreeLaws
pub mod FormLaws
pub mod SetLaws

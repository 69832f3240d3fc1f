pub mod ListLaws
pub mod ShapeLaws
pub mod EntryLaws
pub mod WeightLaws
pub mod TextLaws
pub mod TableLaws
pub mod KeptLaws

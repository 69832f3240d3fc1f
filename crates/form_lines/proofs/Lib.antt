pub mod TextLaws
mod NameLaws

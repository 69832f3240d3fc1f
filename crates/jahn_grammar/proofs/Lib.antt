pub mod Trees
pub mod Atoms
pub mod AtomReads
pub mod Marks
pub mod FactorTexts
pub mod Scans
pub mod TreeReads
pub mod Written

pub mod FirstNamed
pub mod PrimePatterns
pub mod Forms
pub mod Matrices
pub mod Numbers
pub mod RuledOut
pub mod Names

mod LineLemmas
pub mod LongLines
mod AnswerLemmas
mod Cuts
mod Progress
mod Exits
mod Owed

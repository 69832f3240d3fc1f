mod Stable
mod ToldApart
mod StateMarks
mod FirstState
mod KindLaws
mod Counting
mod Symbols

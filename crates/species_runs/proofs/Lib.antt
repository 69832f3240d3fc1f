mod Pairs
mod PropertyLines
mod Refusing

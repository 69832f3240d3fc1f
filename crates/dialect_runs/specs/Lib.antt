pub mod DialectRuns

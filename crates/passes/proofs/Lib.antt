pub mod Passes
pub mod PlainRuns
pub mod PlainV4

pub mod EventPasses
pub mod PlainRuns
pub mod PlainV4

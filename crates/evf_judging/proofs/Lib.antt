pub mod Judged
pub mod Verdicts

pub mod Runs
pub mod Lines

pub mod Runs
pub mod OldCodes
pub mod Passing

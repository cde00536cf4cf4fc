pub mod Along
pub mod Played
pub mod Runs
pub mod OldCodes
pub mod Judging

pub mod Reading
pub mod Judging
pub mod Parsed
pub mod Turns

pub mod Waits
pub mod Records

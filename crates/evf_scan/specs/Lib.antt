pub mod Scanning
pub mod Counts

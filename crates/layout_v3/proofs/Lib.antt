pub mod Checksum
pub mod Back

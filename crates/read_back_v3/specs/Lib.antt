pub mod Back3
pub mod Smallest

pub mod Events3
pub mod Times3
pub mod Whole3
pub mod Back3
pub mod Smallest

pub mod Saved
pub mod Back

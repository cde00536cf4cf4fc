pub mod Values
pub mod Filled

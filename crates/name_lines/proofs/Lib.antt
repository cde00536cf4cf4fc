pub mod Lines
pub mod Gathering
pub mod Taking
pub mod Whole
pub mod Parts
pub mod Sights
pub mod Examples

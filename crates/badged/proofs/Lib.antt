pub mod Telling
pub mod Examples

pub mod Layout
pub mod Strings

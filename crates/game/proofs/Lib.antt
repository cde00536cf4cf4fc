pub mod Codes
pub mod Letters
pub mod Same
pub mod Sizes
pub mod Checks

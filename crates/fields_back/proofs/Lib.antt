pub mod Taken
pub mod Flags
pub mod Fields

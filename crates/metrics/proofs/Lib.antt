pub mod Skipped
pub mod Texts
pub mod Blocks

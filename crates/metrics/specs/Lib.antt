pub mod Block
pub mod Texts

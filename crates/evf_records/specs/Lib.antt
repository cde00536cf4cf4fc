pub mod Refusals
pub mod Causes
pub mod Steps
pub mod Plain

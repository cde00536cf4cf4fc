pub mod Shown
pub mod Shows

pub mod NameLines
pub mod Steps
pub mod Paths
pub mod Shown

pub mod LeftOut
pub mod Ending
pub mod Steps

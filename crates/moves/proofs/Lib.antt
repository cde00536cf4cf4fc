pub mod Targets
pub mod Judging
pub mod Steps
pub mod Resting

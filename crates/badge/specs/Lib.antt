pub mod Badge
pub mod Judging

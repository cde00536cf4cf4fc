pub mod Recounting
pub mod Lines
pub mod Examples

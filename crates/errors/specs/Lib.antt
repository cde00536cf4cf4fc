pub mod Errors
pub mod Places

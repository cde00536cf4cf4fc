pub mod Places
pub mod Fields

pub mod Tables
pub mod Each
pub mod Stores

pub mod Lines
pub mod Rows
pub mod Fits
pub mod Silent

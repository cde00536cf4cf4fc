pub mod Fits
pub mod Carried

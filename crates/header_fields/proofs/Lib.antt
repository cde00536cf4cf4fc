pub mod Contents
pub mod Sure
pub mod Fits

pub mod Events
pub mod Lines
pub mod Fits
pub mod Lent
pub mod Printed

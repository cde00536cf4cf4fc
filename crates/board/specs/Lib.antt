pub mod Geometry
pub mod Bits

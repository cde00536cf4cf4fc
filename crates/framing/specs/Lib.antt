pub mod Expanding
pub mod Frames

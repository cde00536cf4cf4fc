pub mod Chords
pub mod Pressing

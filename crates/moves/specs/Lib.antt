pub mod Clicks
pub mod Moves

pub mod Games
pub mod Layout

pub mod Events
pub mod Start

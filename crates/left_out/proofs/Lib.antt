pub mod States
pub mod Left
pub mod Copy

pub mod Held
pub mod Promised
pub mod ReadFiles
pub mod Examples

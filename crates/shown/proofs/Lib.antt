pub mod Boards
pub mod Small
pub mod Promised

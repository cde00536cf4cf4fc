pub mod Board
pub mod Copies
pub mod Numbers

pub mod Ruled
pub mod Answers
pub mod Agree
pub mod Around
pub mod Numbers
pub mod Whole

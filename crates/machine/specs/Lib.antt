pub mod Machine
pub mod Closure
pub mod Answers

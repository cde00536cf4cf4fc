pub mod Checksum
pub mod Judging
pub mod Buffers
pub mod Filled
pub mod Answers
pub mod Singly
pub mod Trace

pub mod KindTests
pub mod Causes
pub mod Entries
pub mod Rows
pub mod Plain

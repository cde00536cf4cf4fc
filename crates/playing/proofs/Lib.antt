pub mod Rows
pub mod Refusing
pub mod Beginning
pub mod Through
pub mod Prefixes
pub mod Marked

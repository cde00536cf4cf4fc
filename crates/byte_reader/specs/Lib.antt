pub mod Reading
pub mod Numbers
pub mod Fields
pub mod Cursor
pub mod Widths

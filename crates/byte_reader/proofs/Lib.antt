pub mod Numbers
pub mod Cursor
pub mod Fields
pub mod Laws

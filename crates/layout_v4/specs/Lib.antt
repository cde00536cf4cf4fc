pub mod Version4

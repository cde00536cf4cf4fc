pub mod Version3

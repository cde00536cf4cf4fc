pub mod Software

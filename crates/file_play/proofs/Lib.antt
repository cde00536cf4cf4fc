pub mod Started
pub mod Files

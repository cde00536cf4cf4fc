pub mod Files
pub mod Times

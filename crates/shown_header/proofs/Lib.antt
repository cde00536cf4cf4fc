pub mod Parts
pub mod Small

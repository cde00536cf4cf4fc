pub mod Resaved
pub mod Steps
pub mod Page

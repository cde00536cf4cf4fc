pub mod Play
pub mod Beginning
pub mod Marked

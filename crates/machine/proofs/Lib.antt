pub mod Counting
pub mod Opening
pub mod Standing
pub mod Uncovering
pub mod PlayOn
pub mod Ending
pub mod Closing
pub mod OneMore

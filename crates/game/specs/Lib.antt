pub mod Kinds
pub mod Header
pub mod Limits
pub mod Sizes
pub mod Country
pub mod Refusals
pub mod Checks
pub mod Same

pub mod Falling
pub mod Passing
pub mod Through
pub mod Rules

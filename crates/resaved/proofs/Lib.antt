pub mod Fields
pub mod Sending
pub mod Examples
pub mod Carried

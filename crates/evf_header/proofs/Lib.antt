pub mod Metered
pub mod Sound
pub mod Numbers

pub mod Steps
pub mod Laws
pub mod Characters
pub mod Digests

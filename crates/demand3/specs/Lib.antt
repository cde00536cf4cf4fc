pub mod Demand3
pub mod TwoCalls
pub mod NoNan

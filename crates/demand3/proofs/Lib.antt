pub mod Demand3
pub mod Host
pub mod TwoCalls
pub mod NoNan
pub mod Consequences

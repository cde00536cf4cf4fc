pub mod FilePlay
pub mod Starting

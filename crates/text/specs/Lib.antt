pub mod Places
pub mod Bytes
pub mod Ends
pub mod Utf8
pub mod Classes
pub mod Chars
pub mod Decimals
pub mod Words

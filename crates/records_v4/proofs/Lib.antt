pub mod Codes
pub mod Records
pub mod Seen
pub mod MouseRecords

pub mod Pauses
pub mod Records
pub mod MouseRecords

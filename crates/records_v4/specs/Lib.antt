pub mod Records
pub mod Tells
pub mod MouseRecords

-- The laws of a row that is filled by turns of a reading.
pub mod Turns

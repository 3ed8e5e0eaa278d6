pub mod Counts
pub mod Writes

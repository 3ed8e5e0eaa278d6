pub mod Places
pub mod Joins
pub mod Counts
pub mod Served
pub mod Started

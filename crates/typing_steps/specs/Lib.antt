pub mod Sorts
pub mod Known
pub mod Messages
pub mod Starts
pub mod Arguments

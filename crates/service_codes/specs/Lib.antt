pub mod Starts
pub mod Services

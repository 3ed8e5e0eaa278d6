pub mod Crews
pub mod Ahead
pub mod Starts
pub mod Turns

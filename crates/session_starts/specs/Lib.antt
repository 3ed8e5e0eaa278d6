pub mod Machines
pub mod Starts

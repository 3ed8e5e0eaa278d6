pub mod Turns
pub mod Views
pub mod Runs
pub mod Desks
pub mod Streams
pub mod Printing

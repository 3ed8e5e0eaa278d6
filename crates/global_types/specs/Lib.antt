pub mod Moves
pub mod Paths
pub mod Views
pub mod Faults

pub mod Linear
pub mod Taken
pub mod OrderFaults
pub mod Marks

pub mod Told
pub mod Grows
pub mod LastStates

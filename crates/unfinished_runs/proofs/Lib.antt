pub mod Standing
pub mod Reached
pub mod HostAnswers
pub mod Joins
pub mod Choosing
pub mod Continuing

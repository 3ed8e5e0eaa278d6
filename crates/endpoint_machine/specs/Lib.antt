pub mod Sessions
pub mod Bound
pub mod Heads
pub mod Acts
pub mod Steps
pub mod Views
pub mod Places

pub mod Choreography
pub mod Sources
pub mod Steps
pub mod Runs
pub mod Examples
pub mod Blocks

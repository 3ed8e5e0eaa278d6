pub mod Accepted
pub mod Capacity
pub mod Runs
pub mod Told
pub mod RunsBy
pub mod ToldBy
pub mod Streams

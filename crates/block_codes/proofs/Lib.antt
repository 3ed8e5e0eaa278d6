pub mod Zips
pub mod Nodes
pub mod Parts
pub mod Joins
pub mod Walks
pub mod OneProcess

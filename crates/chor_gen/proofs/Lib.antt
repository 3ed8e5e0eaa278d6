pub mod Tables
pub mod Nodes
pub mod Heads
pub mod Procedures

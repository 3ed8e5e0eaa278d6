pub mod Determined
pub mod Tables
pub mod Walks
pub mod Blocks

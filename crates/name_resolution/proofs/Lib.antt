pub mod Indexes
pub mod Members
pub mod Repeats
pub mod Walks

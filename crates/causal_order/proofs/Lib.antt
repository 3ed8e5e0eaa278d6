pub mod Indexing
pub mod Scanning
pub mod Reaching
pub mod Marked

pub mod Merged
pub mod Bounds
pub mod Meetings
pub mod Merging

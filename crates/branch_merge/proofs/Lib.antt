pub mod Bounds
pub mod Meetings
pub mod ArmTables
pub mod Merges
pub mod ArmsLoop
pub mod Joins

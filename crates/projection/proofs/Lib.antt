pub mod Inversions
pub mod Branches
pub mod TreeTables
pub mod Makes
pub mod OneCode
pub mod Renamed
pub mod Exchanged
pub mod Clashes

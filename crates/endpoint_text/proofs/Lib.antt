pub mod Ascents
pub mod ArmLists
pub mod Lines
pub mod Sorting

pub mod SortMaps
pub mod SessionOwners
pub mod CheckOrder
pub mod Passed
pub mod Searches

pub mod Left
pub mod Listing
pub mod Entries
pub mod Taken

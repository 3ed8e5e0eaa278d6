pub mod Waits
pub mod Untouched
pub mod Lists
pub mod Taken

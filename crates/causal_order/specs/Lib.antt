pub mod Index
pub mod Scan
pub mod Found
pub mod Adding
pub mod Scanned
pub mod Marking
pub mod Orders

pub mod Sources
pub mod Values
pub mod Rows
pub mod Laws

pub mod Ascending
pub mod Places
pub mod Text
pub mod Parts

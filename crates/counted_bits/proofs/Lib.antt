pub mod Amounts
pub mod Changes
pub mod Found
pub mod Places
pub mod Sums

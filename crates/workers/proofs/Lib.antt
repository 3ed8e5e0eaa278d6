pub mod Takes
pub mod Kept
pub mod Following
pub mod Crossing
pub mod Teams
pub mod Printed

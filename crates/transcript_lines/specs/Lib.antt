pub mod Lines
pub mod Last
pub mod Split
pub mod Whole

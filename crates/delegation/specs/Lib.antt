pub mod Checks
pub mod Owners
pub mod Spans

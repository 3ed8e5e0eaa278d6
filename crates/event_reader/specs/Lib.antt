pub mod Fields
pub mod Known
pub mod Readings
pub mod Bodies
pub mod Fronts
pub mod Spelling

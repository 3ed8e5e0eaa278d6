pub mod Along
pub mod Onward
pub mod Fronts

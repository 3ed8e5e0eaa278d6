pub mod Logs
pub mod Fronts
pub mod Laws

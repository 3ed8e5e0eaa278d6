pub mod Services
pub mod Corresponds
pub mod Premises
pub mod Laws
pub mod CodeAbove

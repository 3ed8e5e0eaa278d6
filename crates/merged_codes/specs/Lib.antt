pub mod Merges
pub mod Scoped
pub mod Laws

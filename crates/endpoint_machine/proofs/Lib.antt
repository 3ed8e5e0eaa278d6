pub mod Bound
pub mod Scopes
pub mod Goings
pub mod Makings
pub mod Actings
pub mod Apart
pub mod Crossing

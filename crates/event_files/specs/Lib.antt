pub mod Files
pub mod Networks
pub mod Fronts
pub mod Events
pub mod FewLines

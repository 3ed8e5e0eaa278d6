pub mod Denials
pub mod Numbered

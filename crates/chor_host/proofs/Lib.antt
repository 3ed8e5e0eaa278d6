pub mod Named
pub mod Meanings
pub mod Answerable

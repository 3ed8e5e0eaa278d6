pub mod Readers
pub mod Places
pub mod Coming
pub mod Lines
pub mod Blocks
pub mod HeaderReaders

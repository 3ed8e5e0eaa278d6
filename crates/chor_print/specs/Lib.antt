pub mod Pieces
pub mod Statements
pub mod Lines
pub mod Text
pub mod Parts

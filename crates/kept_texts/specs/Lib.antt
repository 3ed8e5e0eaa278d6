pub mod Kept

pub mod Places
pub mod Symbols
pub mod Terms
pub mod ReadsBack
pub mod Anew

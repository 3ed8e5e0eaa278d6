pub mod Networks
pub mod Pasts
pub mod Replayed
pub mod Telling

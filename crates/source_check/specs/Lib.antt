pub mod Classes
pub mod Source

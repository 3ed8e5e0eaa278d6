pub mod Words
pub mod Codes
pub mod Programs
pub mod States
pub mod Laws

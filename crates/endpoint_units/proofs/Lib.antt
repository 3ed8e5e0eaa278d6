pub mod Entering
pub mod Words
pub mod Units
pub mod Insides
pub mod Wholes
pub mod Known

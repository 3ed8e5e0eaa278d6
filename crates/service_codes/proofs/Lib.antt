pub mod Lists
pub mod Names
pub mod Sites
pub mod Standing
pub mod Codes
pub mod Roles

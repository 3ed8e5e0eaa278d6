pub mod Keys
pub mod Bodies
pub mod Faults
pub mod Class
pub mod Places
pub mod Functions

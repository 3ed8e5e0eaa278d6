pub mod Environment
pub mod Allowed
pub mod Checks
pub mod After
pub mod TypeFaults
pub mod Guarded

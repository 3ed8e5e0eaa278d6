pub mod Resolved
pub mod NodeFaults
pub mod InProcedures
pub mod Typed

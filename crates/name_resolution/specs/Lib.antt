pub mod Places
pub mod InProcedures
pub mod Sets

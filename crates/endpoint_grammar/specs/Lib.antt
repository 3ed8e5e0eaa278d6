pub mod Written
pub mod Grammar
pub mod Values

pub mod Between
pub mod Tables
pub mod Options
pub mod Words

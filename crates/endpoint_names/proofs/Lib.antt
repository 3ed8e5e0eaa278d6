pub mod Keys
pub mod Indexes
pub mod Tables
pub mod Walks
pub mod Classes

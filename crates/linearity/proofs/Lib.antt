pub mod Greatest
pub mod Orders
pub mod Judged
pub mod Bits

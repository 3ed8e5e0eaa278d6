pub mod Bodies
pub mod Numbers
pub mod Projected
pub mod Appended

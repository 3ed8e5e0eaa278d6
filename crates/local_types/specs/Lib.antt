pub mod Text
pub mod Reading
pub mod Numbers
pub mod States
pub mod Texts

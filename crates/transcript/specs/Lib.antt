pub mod Text
pub mod Books
pub mod Phrases
pub mod Written
pub mod Closing

pub mod Ends
pub mod Books
pub mod Runs
pub mod Programs
pub mod SourceEvents

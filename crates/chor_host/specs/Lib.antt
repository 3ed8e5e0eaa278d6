pub mod Functions
pub mod Tables
pub mod Answers
pub mod Props
pub mod Program

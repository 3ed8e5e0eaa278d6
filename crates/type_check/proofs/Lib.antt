mod Begins
mod Names
mod Procedures
mod Turns
mod Walks

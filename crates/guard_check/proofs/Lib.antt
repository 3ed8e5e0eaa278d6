mod Members
mod Walks

pub mod LineCuts
pub mod FeedFree
pub mod Histories
pub mod WholeLines

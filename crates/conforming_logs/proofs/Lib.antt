pub mod Judgeable
pub mod Judged
pub mod Along
pub mod Transcripts

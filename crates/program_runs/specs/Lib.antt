pub mod Transcripts
pub mod Told
pub mod Books
pub mod ByWorkers
pub mod Laws
pub mod Streams

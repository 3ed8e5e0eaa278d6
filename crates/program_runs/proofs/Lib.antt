pub mod Transcripts
pub mod TellingOn
pub mod Alike
pub mod SameTexts
pub mod SameTranscripts
pub mod SameTranscriptsBy
pub mod Histories
pub mod Streamed

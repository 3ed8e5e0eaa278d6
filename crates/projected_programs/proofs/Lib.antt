mod Terms
mod Deeds
mod Laid
mod Units
mod Codes
mod Inputs
mod Verdicts
mod Literals
pub mod Hosts
mod ToldRuns
pub mod Checked
pub mod Books
pub mod Runs
pub mod RunsBy
pub mod Told
pub mod Lists
pub mod Scopes
pub mod Faultless
pub mod Asking
mod Values
mod States
mod Places
mod Acts
mod Starts
pub mod SizedRuns
pub mod Read
pub mod SameTerms
pub mod SameCodes
pub mod Programs
pub mod Transcripts

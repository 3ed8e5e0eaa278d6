pub mod Networks
pub mod Texts
pub mod Relations
pub mod Numbers
pub mod Sources
pub mod Rearrangements
pub mod Leads

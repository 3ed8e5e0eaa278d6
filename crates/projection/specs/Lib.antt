pub mod Codes
pub mod Projects
pub mod MergeFaults
pub mod Renamed
pub mod Making
pub mod Examples

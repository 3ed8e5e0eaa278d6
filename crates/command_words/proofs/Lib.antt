pub mod Names
pub mod OptionWords
pub mod Forms
pub mod SameWords

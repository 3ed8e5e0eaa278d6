pub mod Least
pub mod AskedMerged
pub mod ScopedTables
pub mod ScopedMerged
pub mod SameScopes
pub mod NoCall

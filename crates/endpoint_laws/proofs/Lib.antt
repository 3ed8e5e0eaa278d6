pub mod Lists
pub mod Once
pub mod Bodies
pub mod Files
pub mod Asked
pub mod Backward
pub mod Unmade
pub mod Trees
pub mod Kept
pub mod Words
pub mod Naming
mod Faults
mod Units
mod Alike
mod Readings
mod Rules
pub mod Verdicts
pub mod SymbolReading
pub mod Expressions
pub mod PrintedBodies
pub mod LimitOrdering
pub mod PrintedUnits
pub mod SymbolOrdering
pub mod Cutting
pub mod SameNames
pub mod AskedOrdering
pub mod PrintedFaults
pub mod FaultlessBodies
pub mod FaultlessUnits
pub mod Whole
pub mod Reordered
pub mod Terms
pub mod There
pub mod Codes
pub mod Programs
pub mod Read

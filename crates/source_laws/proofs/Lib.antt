mod Nodes
mod Sources
mod FirstFaults
mod Classes
mod Verdicts

mod ExamplesOfAnalysts
mod ExamplesOfFaults
mod ExamplesOfForms
mod ExamplesOfLimits
pub mod Laws
pub mod Lists
mod Made
pub mod NameLemmas
pub mod OnLiterals
pub mod Partitions
mod Pieces
pub mod Signatures
pub mod Steps
pub mod Values

-- The lemmas of this crate, and its worked examples.
pub mod Arenas
mod ExamplesOfTypes
mod ExamplesOfTerms
mod ExamplesOfTables
pub mod Bare
pub mod Padding
pub mod RowTypes
pub mod SameTypes
pub mod Signatures
pub mod TypeNodes
pub mod TermNodes

pub mod Numbers
pub mod Parses
pub mod Kept
pub mod Accepted
pub mod Said
pub mod Plain
mod Examples
mod MirrorExamples
mod DerivationExamples
pub mod Workers
mod Subcommands
pub mod Tests

-- The lemmas of this crate, and its worked examples.
pub mod Agree
pub mod Alike
pub mod Answered
pub mod Bare
pub mod Complete
pub mod Entries
mod ExampleTerms
mod ExamplesOfPairs
mod ExamplesOfSums
mod ExamplesOfFunctions
mod ExamplesOfNumbers
mod ExamplesOfBags
mod ExamplesOfPrograms
mod ExamplesOfEnvironments
mod ExamplesOfFractions
mod ExamplesOfOrder
pub mod Programs
pub mod Quotient
pub mod Rest
pub mod Scope
pub mod Sound
pub mod Written

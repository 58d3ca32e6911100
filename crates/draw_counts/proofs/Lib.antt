pub mod Uniform
pub mod Steps
pub mod After
pub mod Symmetry
pub mod Potentials
pub mod Exhaustion
pub mod Rare
pub mod Chains
pub mod Ideal
pub mod Begins
pub mod Numbers
pub mod Whole
pub mod Shift
pub mod Private
pub mod Sums
pub mod Sequences
pub mod Falling
pub mod Order
pub mod Larger
mod Examples
mod ExamplesOfSequences

pub mod Counts
pub mod Noises
pub mod Privacy
pub mod Sequence
pub mod Laws

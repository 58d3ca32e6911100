-- The definitions of this crate.
pub mod Derivable
pub mod Judged
pub mod Bound
pub mod ByPlace
pub mod Least
pub mod Names
pub mod Law
pub mod Walked
pub mod Walking
pub mod Answered
pub mod Making
pub mod Putting

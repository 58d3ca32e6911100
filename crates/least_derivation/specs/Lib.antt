-- The definitions of this crate.
pub mod Derived
pub mod Answered
pub mod Law

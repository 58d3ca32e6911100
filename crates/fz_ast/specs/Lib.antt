-- The definitions of this crate.
pub mod Types
pub mod Terms
pub mod Bare
pub mod Limits
pub mod Depth
pub mod Signature
pub mod Kept
pub mod Names
pub mod Parts
pub mod Codes
pub mod TypeNodes
pub mod TermNodes
pub mod Tables
pub mod Rows
pub mod Arena

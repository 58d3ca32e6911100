-- The proofs of this crate.
pub mod SameSaid
pub mod LeastRule
pub mod Limited
pub mod Low
pub mod Readable
pub mod Judged

-- The proofs of this crate.
pub mod Behind
pub mod Derivations
pub mod Digits
pub mod Fronts
pub mod Numbered
pub mod Once
pub mod Pending
pub mod Pieces
pub mod Plain
pub mod ReadBack
pub mod Says

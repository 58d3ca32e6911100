-- The proofs of this crate.
pub mod Amounts
pub mod ByForm
pub mod Factors
pub mod Scopes
pub mod Shapes
pub mod Tests

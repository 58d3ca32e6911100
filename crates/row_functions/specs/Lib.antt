-- The definitions of this crate.
pub mod Computed
pub mod RowFunctions
pub mod Laws
pub mod Worked

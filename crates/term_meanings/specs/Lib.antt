-- The definitions of this crate.
pub mod Sensitivities
pub mod Scopes
pub mod Means
pub mod Near
pub mod Environments

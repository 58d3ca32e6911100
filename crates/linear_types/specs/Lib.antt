-- The definitions of this crate.
pub use Rattle.term_meanings.specs.Sensitivities
pub mod Typing
pub mod Inferred
pub mod Rule
pub mod Groups
pub mod Fractions
pub mod Program
pub mod Laws
pub mod Places
pub mod Environment
pub mod Entries

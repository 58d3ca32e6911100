pub use Rattle.term_meanings.specs.Means
pub use Rattle.term_meanings.specs.Near
pub mod Blanks
pub mod Law
pub mod Unsound
pub mod Reached
pub mod Worked
pub mod Refusals

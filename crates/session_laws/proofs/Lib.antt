pub mod Comes
pub mod Counting
pub mod Places
pub mod Listed
pub mod Locals
pub mod Added
pub mod Standing
pub mod Once
pub mod Sources
pub mod Kept
pub mod Exact
pub mod Growing
pub mod Assembles
pub mod Crew
pub mod Dealing
pub mod Betweens
pub mod Causes
pub mod Closings
pub mod Exists
pub mod Scripts
pub mod Walks
pub mod Worked
pub mod Whole
mod Orders
mod ExamplesOfBlocks
mod ExamplesOfWhole
-- passed on to the crates above
pub mod SessionCore
pub use Rattle.session_core.proofs.AnswerPath
pub use Rattle.session_core.proofs.OwnerHistory

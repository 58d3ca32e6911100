pub mod Prefixes
pub mod Explaining
pub mod Sums
pub mod Apart
pub mod Charges
pub mod Bounded
pub mod OneShown
pub mod Grants
pub mod Steps
pub mod Recalls
pub mod Shares
pub mod Sound
pub mod Examples
mod ExamplesOfRecords
mod ExamplesOfParts
-- passed on to the crates above
pub mod AnswerPath
pub use Rattle.answer_path.proofs.OwnerDesk
pub use Rattle.answer_path.proofs.OwnerHouse

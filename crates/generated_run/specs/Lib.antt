pub mod Tally
pub mod Settled
pub mod Answered
pub mod SessionLaws
-- passed on to the crates above
pub use Rattle.session_laws.specs.AnswerPath
pub use Rattle.session_laws.specs.Causes
pub use Rattle.session_laws.specs.OwnerHistory
pub use Rattle.session_laws.specs.SessionCore

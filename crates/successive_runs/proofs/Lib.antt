pub mod Fronts
pub mod Numbered
pub mod Granted
pub mod Ran
mod Speaking
pub mod Sent
mod OfLines
pub mod Lives
pub mod Files
mod Raised
mod Agreed
mod Examples
-- passed on to the crates above
pub use Rattle.query_server.proofs.AnswerPath
pub use Rattle.query_server.proofs.HeldSessions
pub use Rattle.query_server.proofs.OwnerHistory
pub use Rattle.query_server.proofs.SessionCore

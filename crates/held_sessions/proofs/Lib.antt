pub mod Lists
pub mod Rows
pub mod Promises
pub mod Written
pub mod Together
mod Examples
-- passed on to the crates above
pub use Rattle.session_laws.proofs.Assembles
pub use Rattle.session_laws.proofs.Causes
pub use Rattle.session_laws.proofs.Comes
pub use Rattle.session_laws.proofs.Dealing
pub use Rattle.session_laws.proofs.Exact
pub use Rattle.session_laws.proofs.Growing
pub use Rattle.session_laws.proofs.Locals
pub use Rattle.session_laws.proofs.SessionCore
pub use Rattle.session_serve.proofs.Steps

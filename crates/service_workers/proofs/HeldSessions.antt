-- What the crates above read of held_sessions, passed on to them.

pub use Rattle.held_sessions.proofs.Lists
pub use Rattle.held_sessions.proofs.Promises
pub use Rattle.held_sessions.proofs.Written
pub use Rattle.held_sessions.proofs.Together
pub use Rattle.held_sessions.proofs.Causes
pub use Rattle.held_sessions.proofs.Comes
pub use Rattle.held_sessions.proofs.Exact
pub use Rattle.held_sessions.proofs.Growing
pub use Rattle.held_sessions.proofs.Locals

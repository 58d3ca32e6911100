pub mod Attending
pub mod Posted
pub mod Joined
mod Examples
-- passed on to the crates above
pub mod HeldSessions
pub use Rattle.held_sessions.proofs.Together

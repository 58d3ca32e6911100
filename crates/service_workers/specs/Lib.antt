pub mod Services
pub mod Code
-- passed on to the crates above
pub mod HeldSessions
pub use Rattle.held_sessions.specs.Crews
pub use Rattle.held_sessions.specs.Kept
pub use Rattle.held_sessions.specs.Sittings

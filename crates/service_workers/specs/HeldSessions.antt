-- What the crates above read of held_sessions, passed on to them.

pub use Rattle.held_sessions.specs.Sittings
pub use Rattle.held_sessions.specs.Kept
pub use Rattle.held_sessions.specs.Causes
pub use Rattle.held_sessions.specs.Growing
pub use Rattle.held_sessions.specs.Lines
pub use Rattle.held_sessions.specs.Session
pub use Rattle.held_sessions.specs.SessionEnds

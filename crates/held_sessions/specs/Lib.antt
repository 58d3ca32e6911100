pub mod Sittings
pub mod Kept
pub mod Crews
-- passed on to the crates above
pub use Rattle.session_laws.specs.Causes
pub use Rattle.session_laws.specs.Growing
pub use Rattle.session_laws.specs.Lines
pub use Rattle.session_laws.specs.SessionCore
pub use Rattle.session_serve.specs.Session
pub use Rattle.session_serve.specs.declared.serve.SessionEnd as SessionEndType
pub use Rattle.session_serve.specs.declared.serve.SessionEnd.TheVariants as SessionEnds

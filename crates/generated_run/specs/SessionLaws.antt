-- What the crates above read of session_laws, passed on to them.

pub use Rattle.session_laws.specs.Growing
pub use Rattle.session_laws.specs.Lines
pub use Rattle.session_laws.specs.Whole

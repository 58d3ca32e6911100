-- What the crates above read of session_core, passed on to them.

pub use Rattle.session_core.proofs.Exchanges
pub use Rattle.session_core.proofs.Turns
pub use Rattle.session_core.proofs.Exactly
pub use Rattle.session_core.proofs.Serving
pub use Rattle.session_core.proofs.Examples

-- What the crates above read of session_laws, passed on to them.

pub use Rattle.session_laws.proofs.Comes
pub use Rattle.session_laws.proofs.Places
pub use Rattle.session_laws.proofs.Listed
pub use Rattle.session_laws.proofs.Locals
pub use Rattle.session_laws.proofs.Added
pub use Rattle.session_laws.proofs.Standing
pub use Rattle.session_laws.proofs.Once
pub use Rattle.session_laws.proofs.Sources
pub use Rattle.session_laws.proofs.Kept
pub use Rattle.session_laws.proofs.Exact
pub use Rattle.session_laws.proofs.Growing
pub use Rattle.session_laws.proofs.Causes
pub use Rattle.session_laws.proofs.Whole

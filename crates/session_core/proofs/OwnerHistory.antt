-- What the crates above read of owner_history, passed on to them.

pub use Rattle.owner_history.proofs.Prefixes
pub use Rattle.owner_history.proofs.Explaining
pub use Rattle.owner_history.proofs.Bounded
pub use Rattle.owner_history.proofs.Grants
pub use Rattle.owner_history.proofs.Steps
pub use Rattle.owner_history.proofs.Sound

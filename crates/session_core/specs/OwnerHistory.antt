-- What the crates above read of owner_history, passed on to them.

pub use Rattle.owner_history.specs.Explains
pub use Rattle.owner_history.specs.Sound
pub use Rattle.owner_history.specs.Granted

-- What the crates above read of owner_desk, passed on to them.

pub use Rattle.owner_desk.specs.Passes
pub use Rattle.owner_desk.specs.Answers
pub use Rattle.owner_desk.specs.Shared

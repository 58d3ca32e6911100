-- What the crates above read of shape_law, passed on to them.

pub use Rattle.shape_law.specs.Walk

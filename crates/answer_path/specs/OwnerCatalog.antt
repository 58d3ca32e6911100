-- What the crates above read of owner_catalog, passed on to them.

pub use Rattle.owner_catalog.specs.Entries

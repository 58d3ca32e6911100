-- What the crates above read of owner_house, passed on to them.

pub use Rattle.owner_house.specs.Owner
pub use Rattle.owner_house.specs.House

-- What the crates above read of part_views, passed on to them.

pub use Rattle.part_views.specs.Partitions
pub use Rattle.part_views.specs.Views
pub use Rattle.part_views.specs.Holding

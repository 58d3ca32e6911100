pub mod Explains
pub mod Shown
pub mod Limits
pub mod Sound
pub mod Granted
-- passed on to the crates above
pub mod AnswerPath
pub use Rattle.answer_path.specs.OwnerCatalog
pub use Rattle.answer_path.specs.OwnerDesk
pub use Rattle.answer_path.specs.OwnerHouse
pub use Rattle.answer_path.specs.PartViews
pub use Rattle.answer_path.specs.ShapeLaw

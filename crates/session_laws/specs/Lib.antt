pub mod CameBy
pub mod ToldOnce
pub mod Growing
pub mod Lines
pub mod Crew
pub mod Between
pub mod Causes
pub mod Order
pub mod Whole
pub mod Walks
-- passed on to the crates above
pub mod SessionCore
pub use Rattle.session_core.specs.AnswerPath
pub use Rattle.session_core.specs.OwnerDesk
pub use Rattle.session_core.specs.OwnerHistory
pub use Rattle.session_core.specs.OwnerHouse

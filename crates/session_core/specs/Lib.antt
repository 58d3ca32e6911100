pub mod Meant
pub mod Turns
pub mod Exchanges
pub mod Transcript
pub mod Served
pub mod Gathered
pub mod Headline
pub mod Said
pub mod Code
pub mod Bundles
pub mod Blocks
pub mod Worked
-- passed on to the crates above
pub mod OwnerHistory
pub use Rattle.owner_history.specs.AnswerPath
pub use Rattle.owner_history.specs.OwnerDesk
pub use Rattle.owner_history.specs.OwnerHouse
pub use Rattle.owner_history.specs.ShapeLaw

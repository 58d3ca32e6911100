pub mod Status
pub mod Work
pub mod Outside
pub mod Duty
pub mod Mirrors
pub mod Run
pub mod Init
pub mod Audit
pub mod Check
pub mod Gap
pub mod Derivation
pub mod Serve
pub mod Enough
pub mod Gen
pub mod Grant
pub mod Due
pub mod Promise
pub mod Valid
pub mod Found
pub mod Ends
pub mod Ended
pub mod Granted
pub mod Service
pub mod Taken
pub mod Laws
-- passed on to the crates above
pub use Rattle.generated_run.specs.AnswerPath
pub use Rattle.generated_run.specs.OwnerHistory
pub use Rattle.generated_run.specs.SessionCore
pub use Rattle.generated_run.specs.SessionLaws
pub use Rattle.owner_books.specs.Opened
pub use Rattle.owner_books.specs.Refusals
pub use Rattle.owner_books.specs.Shelves
pub use Rattle.service_workers.specs.HeldSessions
pub use Rattle.service_workers.specs.Services as ServiceOver
pub use Rattle.service_workers.specs.declared.posting.Service as PostedService

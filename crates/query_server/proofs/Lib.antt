pub mod Prefixes
pub mod Mirrored
pub mod Went
pub mod Enough
pub mod Admitted
pub mod WholeViews
pub mod Bounded
pub mod Endings
pub mod Contents
pub mod Disks
pub mod Doors
pub mod Ends
pub mod Owed
pub mod Ran
pub mod Served
pub mod Home
pub mod Made
pub mod Counted
pub mod Derived
pub mod Diskless
pub mod Outcomes
pub mod Services
pub mod Valid
pub mod Gained
pub mod Found
pub mod Lines
pub mod Causes
pub mod Transcribed
pub mod Compared
pub mod Examples
pub mod ExamplesOfOrder
pub mod ExamplesOfDisks
pub mod ExamplesOfService
pub mod ExamplesOfGrants
mod ExamplesOfDerivations
mod ExamplesOfRecords
mod ExamplesOfMirrors
pub mod Granting
-- passed on to the crates above
pub use Rattle.generated_run.proofs.AnswerPath
pub use Rattle.generated_run.proofs.OwnerHistory
pub use Rattle.generated_run.proofs.SessionCore
pub use Rattle.generated_run.proofs.SessionLaws
pub use Rattle.owner_books.proofs.Unopened
pub use Rattle.service_workers.proofs.HeldSessions

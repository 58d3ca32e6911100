pub mod Entries
pub mod Known
pub mod Jobs
pub mod Views
pub mod History
pub mod Passes

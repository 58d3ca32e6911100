pub mod Done
pub mod Unique
pub mod Bounded
pub mod Verdicts
pub mod Yes
mod Examples
pub mod TableNames

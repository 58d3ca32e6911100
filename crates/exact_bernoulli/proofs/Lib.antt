pub mod Examples
pub mod Exact
pub mod Metered
pub mod Runs
pub mod Trials

mod Splits
mod Runs
pub mod Services
mod Stopped
mod Examples

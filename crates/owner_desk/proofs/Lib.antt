pub mod Calls
mod Examples
mod ExamplesOfLocks
pub mod Lists
pub mod Meeting
pub mod Own
pub mod Settles
pub mod Steps
pub mod Watching

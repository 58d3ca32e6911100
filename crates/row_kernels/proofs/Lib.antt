pub mod Given
pub mod Held
pub mod Changed
pub mod Gathered
pub mod Counted
pub mod Passing
pub mod Examples

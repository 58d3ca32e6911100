pub mod Bundled
pub mod Disks
pub mod Twins
pub mod Back
pub mod Passes
pub mod Unopened
pub mod Stops
pub mod Versions
pub mod Made
mod Examples

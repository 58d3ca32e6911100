pub mod Disks
pub mod Failing
pub mod Laws
pub mod Memory
pub mod Shown
pub mod Stops
pub mod Stored

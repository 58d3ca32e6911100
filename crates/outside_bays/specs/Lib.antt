pub mod Bays
pub mod Failing
pub mod Places

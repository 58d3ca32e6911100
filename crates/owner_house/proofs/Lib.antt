pub mod Found
pub mod Signed
pub mod Names
pub mod Owners

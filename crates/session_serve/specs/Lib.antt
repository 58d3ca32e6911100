pub mod Session
pub mod Code

pub mod Texts
pub mod Starts
pub mod Crews

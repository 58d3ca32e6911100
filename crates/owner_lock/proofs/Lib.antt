mod Examples
pub mod Keeps
mod Laws
pub mod Lists
pub mod Logs

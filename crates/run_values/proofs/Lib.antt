pub mod Bags
pub mod Examples

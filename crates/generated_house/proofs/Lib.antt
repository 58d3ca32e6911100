pub mod Scripts
pub mod Houses
pub mod Registers
pub mod Books
mod Examples

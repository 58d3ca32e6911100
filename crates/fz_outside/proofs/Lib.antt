pub mod Drawn
pub mod Known
mod Examples
mod Walks

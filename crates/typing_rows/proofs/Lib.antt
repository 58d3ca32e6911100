pub mod Answering
pub mod Given
mod Examples

pub mod Files
pub mod Steps
pub mod Loaded
pub mod Fit
pub mod Given

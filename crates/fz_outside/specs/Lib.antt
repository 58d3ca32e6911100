pub mod Draws
pub mod Faults
pub mod Files
pub mod Schedule

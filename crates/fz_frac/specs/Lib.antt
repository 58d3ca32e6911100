pub mod Distance
pub mod Lowest
pub mod Sens

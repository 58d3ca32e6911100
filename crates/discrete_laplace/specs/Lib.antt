pub mod DiscreteLaplace
pub mod Readers
pub mod Noise

mod Examples
pub mod Images
pub mod Overlaid
pub mod Pools
pub mod Stops
mod StopExamples
mod StoredExamples
pub mod Told

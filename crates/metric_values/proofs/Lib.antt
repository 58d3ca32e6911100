pub mod Elements
pub mod Removal
pub mod Metric
pub mod TextPlaces
pub mod SideBySide
mod Examples
mod TableExamples

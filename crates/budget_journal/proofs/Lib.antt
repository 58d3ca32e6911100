pub mod Geometry
pub mod Next
pub mod Gates
pub mod Fills
pub mod Filled
pub mod Copied
pub mod Added
pub mod Room
pub mod Made
pub mod Scans
pub mod One
mod Examples
mod ExamplesOfOne

pub mod Readings
pub mod Releases
pub mod Words
pub mod Fronts
pub mod Slices
pub mod Numbers
pub mod Texts
mod Examples

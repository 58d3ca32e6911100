pub mod Reached
pub mod Pairs
pub mod FileReads
pub mod Owners
pub mod Told
pub mod Loaded
pub mod Holdings
pub mod Hashes
pub mod Fits
pub mod Houses
pub mod ExamplesOfFit
mod ExamplesOfFiles

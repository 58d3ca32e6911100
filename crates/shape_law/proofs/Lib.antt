pub mod Fits
pub mod Runs
pub mod Kept
pub mod Widths
pub mod Reaches
pub mod Programs
pub mod Functions
pub mod Worked
pub mod WorkedFunctions
mod Examples

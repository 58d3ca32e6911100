mod Examples
pub mod Whole
pub mod Kept
pub mod Answered
pub mod Long
pub mod Steps
pub mod Ends

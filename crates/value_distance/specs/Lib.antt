pub mod Order
pub mod Widths
pub mod Answers

-- The lemmas of this crate, and its worked examples.
pub mod Written
pub mod Quotient
pub mod Flatness
pub mod FlatTyping
pub mod Sums
pub mod Heights
pub mod Fine
pub mod Bags
pub mod Nearness
pub mod Closeness
mod Examples
mod Meanings
mod Nearby

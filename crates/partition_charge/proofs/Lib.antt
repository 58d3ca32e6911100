pub mod Charges
mod Examples
pub mod Rests
pub mod Rooms
pub mod Standing
pub mod Sums

pub mod Examples
pub mod Exact
pub mod Ones
pub mod Attempts
pub mod Law
pub mod Samples
pub mod Fewer

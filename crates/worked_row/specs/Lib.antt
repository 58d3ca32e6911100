pub mod Row
pub mod Held
pub mod Grant
pub mod Serve

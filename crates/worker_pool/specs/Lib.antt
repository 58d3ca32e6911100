pub mod Each
pub mod Gates
pub mod Workers

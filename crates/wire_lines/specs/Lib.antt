pub mod Lines
pub mod Number
pub mod Epsilon
pub mod Request
pub mod Name
pub mod Refusal
pub mod Codes
pub mod Reply

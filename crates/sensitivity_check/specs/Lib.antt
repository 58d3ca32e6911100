pub mod Answered
pub mod Written
pub mod Scope
pub mod Judging

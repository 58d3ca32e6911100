pub mod Passes
pub mod Answers
pub mod Noted
pub mod Watched
pub mod Lawful
pub mod Shared

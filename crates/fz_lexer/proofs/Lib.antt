pub mod Spellings
pub mod Runs
pub mod Prefixes
pub mod Cuts
pub mod Lexing
pub mod Examples

pub mod Bytes
pub mod Words
pub mod Signs
pub mod Tokens
pub mod Prefixes

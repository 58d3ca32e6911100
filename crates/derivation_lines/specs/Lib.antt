-- The definitions of this crate.
pub mod Lines
pub mod Said
pub mod Held
pub mod Texts
pub mod Written
pub mod Readable
pub mod Counted
pub mod Pending
pub mod Unwritten
pub mod Found
pub mod Interned
pub mod Pieces

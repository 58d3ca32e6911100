-- The definitions of this crate.
pub mod Limits
pub mod Forms
pub mod Members
pub mod Plain
pub mod Fault
pub mod Entries
pub mod Lawful
pub mod Catalog
pub mod Digest
pub mod Made

pub mod Ordered
pub mod Merged
pub mod RowParts
pub mod Halved
mod Examples
pub mod Gathered
pub mod Typed
pub mod NumberRows

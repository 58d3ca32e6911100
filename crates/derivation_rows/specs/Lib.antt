-- The definitions of this crate.
pub mod Numbers
pub mod Rows
pub mod Groups
pub mod Nodes
pub mod Faults
pub mod Shapes
pub mod Placed
pub mod Ruled
pub mod Scoped
pub mod Formed
pub mod Viewed

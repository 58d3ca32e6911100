pub mod Schema
pub mod Cell
pub mod Table
pub mod Reader
pub mod Growth
pub mod Groups
pub mod Lookup

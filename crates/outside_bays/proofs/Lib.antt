mod Examples
pub mod Shelves

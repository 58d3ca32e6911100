pub mod Shelves
pub mod Bays
pub mod Refusals
pub mod Opened
pub mod Books
pub mod Making

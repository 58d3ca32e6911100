mod Examples
pub mod One
pub mod Puts
pub mod Shapes

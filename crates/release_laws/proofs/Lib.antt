pub mod Typings
pub mod Shapes
pub mod Programs
pub mod Outlines
pub mod Texts
mod Examples

pub mod Sizes
pub mod Key
pub mod House
pub mod Script

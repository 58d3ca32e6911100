pub mod Owner
pub mod Names
pub mod House

pub mod Computed
pub mod Inferences
pub mod Texts
pub mod Examples

pub mod Rows
pub mod Differences
pub mod CutLaws
pub mod Laws
pub mod SeenLaws
pub mod Chains
pub mod Lawful
pub mod Making
mod Examples
mod MadeExamples

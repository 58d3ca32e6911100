pub mod Outline
pub mod Outcomes
pub mod Numbers
pub mod Texts

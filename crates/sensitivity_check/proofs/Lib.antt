pub mod Numbers
pub mod Scopes
pub mod TableNames
pub mod Judging
pub mod Binders
pub mod TableAmounts
pub mod Programs
pub mod Functions
pub mod Ready
mod Examples

mod Examples
pub mod Said

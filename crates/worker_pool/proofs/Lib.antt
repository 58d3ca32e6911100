pub mod Backs
mod Examples

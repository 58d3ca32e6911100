pub mod Program
pub mod Made
pub mod Mirrored
pub mod Command
pub mod Meant
pub mod Table

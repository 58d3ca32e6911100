pub mod Account
pub mod Booked
pub mod Opened
pub mod Kept
pub mod Laws
pub mod Machine
pub mod Both
pub mod Joined

mod Examples
pub mod Cuts
pub mod Numerals
pub mod Epsilons
pub mod Requests
pub mod Replies

pub mod ExactBernoulli
pub mod Readers
pub mod Meter

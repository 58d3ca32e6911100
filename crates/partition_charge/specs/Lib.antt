pub mod Cost
pub mod Laws
pub mod Parts
pub mod Totals
pub mod Views

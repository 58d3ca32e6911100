pub mod Lanes
pub mod Frames
pub mod Calls
pub mod Cells
pub mod Gathers
pub mod Flows

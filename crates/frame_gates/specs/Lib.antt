pub mod Frames
pub mod Costs
pub mod Rows
pub mod Steps

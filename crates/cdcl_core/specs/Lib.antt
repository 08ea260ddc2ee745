pub mod Logged
pub mod Lines
pub mod Levels
pub mod Analysis
pub mod Solving
pub mod Present
pub mod Searching

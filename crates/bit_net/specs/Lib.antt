pub mod Net
pub mod Needs
pub mod Reaching
pub mod Levels
pub mod Search

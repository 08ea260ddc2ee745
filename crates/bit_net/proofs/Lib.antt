pub mod Lists
pub mod Spreading
pub mod Reached
pub mod Extending
pub mod Needing
pub mod Searching
pub mod Leveling

pub mod Runs
pub mod Lexing
pub mod Stepping
pub mod Fronts
pub mod Feeds

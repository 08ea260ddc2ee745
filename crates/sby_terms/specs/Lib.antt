pub mod Problem
pub mod Decide
pub mod Status
pub mod Code
pub mod Number
pub mod Span
pub mod Path
pub mod Address

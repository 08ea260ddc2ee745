pub mod Hints
pub mod Checking
pub mod Marks
pub mod Table
pub mod Arena

pub mod Shape
pub mod Meaning
pub mod Claims
pub mod Choices
pub mod Served
pub mod Stored

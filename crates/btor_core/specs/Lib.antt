pub mod Shape
pub mod Fits
pub mod Meaning
pub mod Choices
pub mod Growth
pub mod Kept
pub mod Worked

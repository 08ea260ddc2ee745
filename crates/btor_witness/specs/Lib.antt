pub mod Shape
pub mod Grammar
pub mod Streams
pub mod Choices
pub mod Machine
pub mod Within
pub mod Found

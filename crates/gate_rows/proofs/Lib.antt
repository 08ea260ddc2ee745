pub mod Building
pub mod Adding
pub mod Saving
pub mod Multiplying
pub mod Comparing
pub mod Dividing

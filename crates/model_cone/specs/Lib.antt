pub mod Cone
pub mod Slice
pub mod Marking

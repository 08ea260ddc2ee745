pub mod Frozen
pub mod Inside

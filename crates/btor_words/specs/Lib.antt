pub mod Emitting
pub mod Lining
pub mod Operators

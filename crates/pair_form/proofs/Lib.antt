pub mod Writing
pub mod Leading
pub mod Unambiguous

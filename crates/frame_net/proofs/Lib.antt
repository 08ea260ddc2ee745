pub mod Rows
pub mod Telling
pub mod Cycling
pub mod Ordering
pub mod Netting
pub mod Running

pub mod Literals
pub mod Sums

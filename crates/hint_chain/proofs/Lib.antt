pub mod Naming
pub mod Chaining

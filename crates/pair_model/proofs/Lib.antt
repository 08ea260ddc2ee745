pub mod Over
pub mod Ruling

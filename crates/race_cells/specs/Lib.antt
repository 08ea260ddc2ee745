pub mod Notes
pub mod Settling

-- Definitions.
pub mod Cost
pub mod Reads

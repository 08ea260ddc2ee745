-- Definitions.
pub mod Short

pub mod Emitting
pub mod Rows
pub mod CellRows
pub mod Chains

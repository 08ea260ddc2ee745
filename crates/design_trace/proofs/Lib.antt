pub mod Patterns
pub mod Lines
pub mod Faults
pub mod Readings
pub mod Printing
pub mod Pieces
pub mod Coming

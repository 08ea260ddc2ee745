pub mod Cutting
pub mod Lining
pub mod Taking
pub mod Counting
pub mod Pieces
pub mod Faults

pub mod World
pub mod Invariant
pub mod Ended
pub mod Status
pub mod Theorem

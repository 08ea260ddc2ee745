pub mod Propagation
pub mod Propagator
pub mod Marks
pub mod Watch
pub mod Visit
pub mod Scanned
pub mod Inside
pub mod Assumption

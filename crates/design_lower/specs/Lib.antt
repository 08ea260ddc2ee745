pub mod Lowering
pub mod Seen
pub mod Room
pub mod Asks
pub mod Progress
pub mod Passing

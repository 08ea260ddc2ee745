pub mod Saying
pub mod Hearing
pub mod Staging
pub mod Leading
pub mod Quiet
pub mod Staying
pub mod Pieces

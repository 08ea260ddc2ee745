-- Definitions.
pub mod Text
pub mod Breaking
pub mod Answer
pub mod Run
pub mod Deciding

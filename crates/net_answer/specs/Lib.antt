pub mod Piped
pub mod Written
pub mod Sent

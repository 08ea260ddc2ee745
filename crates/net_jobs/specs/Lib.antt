pub mod Jobs
pub mod Reading
pub mod Decoding

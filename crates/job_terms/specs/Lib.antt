pub mod First
pub mod Jobs
pub mod Decoding
pub mod Encoding

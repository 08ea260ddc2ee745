pub mod Finding
pub mod Sounding
pub mod Fates

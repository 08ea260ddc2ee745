pub mod Spelling
pub mod Machine
pub mod Telling
pub mod Taking

pub mod Meaning
pub mod Rests
pub mod States
pub mod Claims
pub mod Runs
pub mod Worked

pub mod Tables
pub mod Models
pub mod Packing
pub mod Running
pub mod Saying
pub mod Wholes
pub mod Counting

pub mod Cnf
pub mod Coding
pub mod Arena
pub mod Dimacs
pub mod Reading

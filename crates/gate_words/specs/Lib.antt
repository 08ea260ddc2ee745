pub mod Words
pub mod Division

pub mod Words
pub mod BitLines

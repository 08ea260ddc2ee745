pub mod Words
pub mod Asked
pub mod Hold
pub mod Launch

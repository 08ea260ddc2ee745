-- Definitions.
pub mod Text
pub mod Passing
pub mod Numbers
pub mod Binary
pub mod File
pub mod Lines
pub mod Reading
pub mod Spelling
pub mod AnyLines
pub mod Grouping

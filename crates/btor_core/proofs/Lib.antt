pub mod Cuts
pub mod Reading
pub mod Fitting
pub mod Numbering
pub mod Growing
pub mod Rows
pub mod Choosing

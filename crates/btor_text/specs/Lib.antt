pub mod Grammar
pub mod Text
pub mod Reading
pub mod Form
pub mod Find
pub mod Refusals
pub mod Steps
pub mod Ties

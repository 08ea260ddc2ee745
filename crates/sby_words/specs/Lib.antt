pub mod Command
pub mod Requests
pub mod Folders
pub mod Words
pub mod Answers
pub mod Kinds

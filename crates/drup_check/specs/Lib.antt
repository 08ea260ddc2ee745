pub mod Marks
pub mod Copies
pub mod Inside
pub mod Checking

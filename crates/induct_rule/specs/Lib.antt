pub mod Induction
pub mod Law
pub mod Counting

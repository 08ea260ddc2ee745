mod Stages
pub mod Answers
mod Sinks
mod Pipes

pub mod Link
pub mod Frame
pub mod Doors
pub mod Memory

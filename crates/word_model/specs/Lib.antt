pub mod Kinds
pub mod Layout
pub mod Served
pub mod Nodes
pub mod Registers
pub mod Built
pub mod Model
pub mod Numbers

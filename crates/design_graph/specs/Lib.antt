pub mod Items
pub mod Order
pub mod Starts
pub mod Edges

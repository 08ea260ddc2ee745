pub mod Playing
pub mod Packed
pub mod Players
pub mod Counter

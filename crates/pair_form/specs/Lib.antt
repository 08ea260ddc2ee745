pub mod Pair
pub mod Text

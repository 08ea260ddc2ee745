pub mod Cuts
pub mod Bits
pub mod Choosing

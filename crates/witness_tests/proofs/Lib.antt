pub mod OneBit
pub mod FourInputs

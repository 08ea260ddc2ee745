pub mod ConstantLemmas
pub mod DigitLemmas

pub mod Printed
pub mod ConstantTexts
pub mod SignalTexts
pub mod CellTexts
pub mod WireTexts
pub mod FileTexts

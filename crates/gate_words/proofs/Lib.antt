pub mod Modulo
pub mod Folding
pub mod Choosing
pub mod Moving
pub mod Quotients

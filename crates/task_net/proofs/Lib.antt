pub mod Spreads
pub mod Fitting
pub mod Solving
pub mod Playing
pub mod Origins
pub mod Costing
pub mod Encoded
pub mod Refusing

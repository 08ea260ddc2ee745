pub mod Numbers
pub mod Residues
pub mod Orders
pub mod Moves
pub mod RowLaws

pub mod Cutting
pub mod RowLemmas
pub mod Widening
pub mod Walking

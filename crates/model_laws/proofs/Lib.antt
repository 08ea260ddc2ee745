pub mod Sums
pub mod Priced
pub mod Costs
pub mod Steps
pub mod Coned

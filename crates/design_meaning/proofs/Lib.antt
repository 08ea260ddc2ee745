pub mod Chains
pub mod States
pub mod Inputs

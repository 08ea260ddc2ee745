pub mod Ids
pub mod Kept
pub mod Standing
pub mod Chains

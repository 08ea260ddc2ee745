mod Weights
mod Chains
mod Decisions
mod Reasons
mod Present

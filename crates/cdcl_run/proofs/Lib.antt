pub mod Putting
pub mod Chains
pub mod Clauses
pub mod Rows
pub mod Words
pub mod Proofs
pub mod Unsat
pub mod Naming
pub mod Sat
pub mod Plain
pub mod HintedClauses
pub mod HintedProofs
pub mod HintedCerts
pub mod Streams
pub mod Fitted
pub mod Answering
pub mod Contents
pub mod Promise
mod Unknown
mod HintedUnknown
pub mod Connections

pub mod Asking
pub mod Program
pub mod Making
pub mod Encoding
pub mod Finishing
pub mod Promises
pub mod Clauses
pub mod Counting

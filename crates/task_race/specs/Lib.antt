-- Definitions.
pub mod Fates
pub mod Serving
pub mod Words
pub mod Watching
pub mod Bays
pub mod Ends
pub mod Ran
pub mod Prepared

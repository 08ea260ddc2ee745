-- Definitions.
pub mod Output
pub mod Text
pub mod Answer
pub mod Run
pub mod Searching
pub mod HintedText
pub mod Stream
pub mod Serving

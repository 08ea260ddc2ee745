pub mod Constants
pub mod Views

pub mod Asking
pub mod Net
pub mod Spreading

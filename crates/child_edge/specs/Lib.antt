pub mod Engine
pub mod Either

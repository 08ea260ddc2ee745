pub mod NetOf
pub mod Making

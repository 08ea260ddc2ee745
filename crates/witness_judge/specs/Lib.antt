pub mod Choosing
pub mod Playing
pub mod Fate
pub mod Judging
pub mod Settling
pub mod Outlining

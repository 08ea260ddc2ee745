pub mod Listing
pub mod Giving

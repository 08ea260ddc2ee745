pub mod Finding
pub mod Numbers
pub mod Places
pub mod Designs
pub mod Declaring
pub mod Lists

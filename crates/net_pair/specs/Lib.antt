pub mod Pairing
pub mod Laying
pub mod Numbers

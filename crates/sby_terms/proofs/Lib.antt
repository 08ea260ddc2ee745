mod Copies
mod Decimals
pub mod Numbers
mod Addresses
mod AddressWords

mod Asks
mod Asking
mod Starts

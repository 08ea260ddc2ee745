mod Writing
mod Giving

pub mod Lists
pub mod Keeping
pub mod Fitting
pub mod Writing
pub mod Frames
pub mod Runs

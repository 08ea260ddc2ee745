mod Endings
mod Entries
mod Keepers
mod Kills
mod PlaceLemmas
mod Proving
mod Readers
mod ChildStarts
pub mod Faults
pub mod Gathered
pub mod Jobs
pub mod Joins
pub mod Lanes
pub mod Nones
pub mod Plains
pub mod PreparedLanes
pub mod Races
pub mod Reasons
pub mod Starts
pub mod Stops
mod Waits
pub mod Wholes

mod Statuses
mod Telling
mod Lowest
mod Collecting
mod AddedEvents
mod SharedParts
mod Places
pub mod Needless

-- Definitions.
pub mod Text
pub mod Machine
pub mod Telling
pub mod Scan
pub mod Stream
pub mod Beginning
pub mod Words
pub mod Places
pub mod Reasons
pub mod LratMachine
pub mod LratTelling
pub mod LratScan
pub mod LratLines
pub mod LratBeginning

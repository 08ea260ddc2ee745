pub mod Meeting
pub mod Choosing
pub mod Telling
pub mod Reading
pub mod Origins
pub mod Encoded
mod Scattering

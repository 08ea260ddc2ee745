pub mod Trace
pub mod Changes
pub mod Coming
pub mod Printed
pub mod Reading
pub mod Stopped

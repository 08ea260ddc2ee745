pub mod Scan
pub mod Trail
pub mod Following
pub mod Admitting
pub mod Table
pub mod Arena
pub mod Rising

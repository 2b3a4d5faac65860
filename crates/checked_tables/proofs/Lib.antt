pub mod Apps
pub mod Reasons
pub mod Kept
pub mod Openings
pub mod Shown

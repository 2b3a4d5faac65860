pub mod Ways
pub mod Whole
pub mod Works
pub mod Kept
pub mod Mains

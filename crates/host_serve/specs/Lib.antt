pub mod Bridging
pub mod Checking
pub mod Images
pub mod Input
pub mod Memory
pub mod Serve
pub mod Status
pub mod Words
